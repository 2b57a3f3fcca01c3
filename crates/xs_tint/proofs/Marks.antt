-- Flags of the styles that a filter lists
use Rattle.std.proofs.Common.{◌≡◌, ℕ, zero, suc, replicate, ◌+◌, ◌<◌, ◌≤◌, Bool, true, false, ◌||◌, ◌&&◌, not, eqb, ltb, length, take, get_or, set, List, [], refl, sym, ap, ◌∙◌, ⊎_elim, subst, arith, get_or-set_same, get_or-set_other, All}
use Rattle.std.proofs.Math.Path.{fun_ext}
use Rattle.std.proofs.lemmas.Bool.{cases_eq, cases_lt, eq-eqb, ne_eqb, or_right, lt-ltb, le-ltb}
use Rattle.std.proofs.lemmas.List.{get_or_past, length-replicate}
use Rattle.std.proofs.lemmas.List.Folds.{list_any_more, list_any_none}
use Rattle.xs_scene.specs.Ranges.{IsFiltered}
use Rattle.xs_meaning.specs.Palettes.{none_dropped}
use Rattle.xs_base.specs.Listed.{is_listed}
use Rattle.xs_tint.specs.Filters.{dropped_by, drops, filtering}

keeps : (a b : Bool) → b ≡ false → a ≡ (a || b)
keeps true b fails = refl
keeps false b fails = sym fails

-- no flag at all drops nothing
pub none_dropped-by_no_flags : dropped_by [] ≡ none_dropped
none_dropped-by_no_flags = fun_ext (λ k. refl)

drops_listed : (keep : Bool) → drops keep false true ≡ not keep
drops_listed true = refl
drops_listed false = refl

get_or-replicate : (n k : ℕ) (b d : Bool) → k < n → get_or (replicate n b) k d ≡ b
get_or-replicate zero k b d within = absurd (omega arith)
get_or-replicate (suc n) zero b d within = refl
get_or-replicate (suc n) (suc k) b d within = get_or-replicate n k b d (omega arith)

-- before any style is listed, a filter drops each style if it keeps the listed ones
pub flags_of_none :
    (keep : Bool) (flags : List Bool) → flags ≡ replicate 4096 keep
    → (length flags ≡ 4096) × ((k : ℕ) → k < 4096 → get_or flags k false ≡ drops keep false false)
flags_of_none keep flags is =
    (ap length is ∙ length-replicate 4096 keep, λ k small. ap (λ xs. get_or xs k false) is ∙ get_or-replicate 4096 k keep false small ∙ unlisted keep)
  where
    unlisted : (keep : Bool) → keep ≡ drops keep false false
    unlisted true = refl
    unlisted false = refl

-- one more style is listed
pub flags_of_more :
    (keep : Bool) (styles : List ℕ) (flags : List Bool) (i style : ℕ) → i < length styles → style ≡ get_or styles i 0
    → style < length flags
    → ((k : ℕ) → k < 4096 → get_or flags k false ≡ drops keep false (is_listed (take i styles) k))
    → (k : ℕ) → k < 4096 → get_or (set flags style (not keep)) k false ≡ drops keep false (is_listed (take (i + 1) styles) k)
flags_of_more keep styles flags i style within is inside before k small =
    rw (list_any_more (λ listed. eqb listed k) styles i 0 within) (⊎_elim this other (cases_eq k style))
  where
    found : Bool
    found = eqb (get_or styles i 0) k

    this : k ≡ style → get_or (set flags style (not keep)) k false ≡ drops keep false (is_listed (take i styles) k || found)
    this same =
        subst (λ (n : ℕ). get_or (set flags style (not keep)) n false ≡ drops keep false (is_listed (take i styles) k || found)) (sym same)
        (get_or-set_same flags style (not keep) false inside
        ∙ sym (ap (drops keep false) (or_right (is_listed (take i styles) k) found (eq-eqb (get_or styles i 0) k (sym is ∙ sym same)))
        ∙ drops_listed keep))

    other : (k ≡ style → ⊥) → get_or (set flags style (not keep)) k false ≡ drops keep false (is_listed (take i styles) k || found)
    other differ =
        get_or-set_other flags style k (not keep) false differ ∙ before k small
        ∙ ap (drops keep false) (keeps (is_listed (take i styles) k) found (ne_eqb (get_or styles i 0) k (λ e. differ (sym e ∙ sym is))))

-- a style that no filter can name is in no list of those that one can
not_listed : (styles : List ℕ) (k : ℕ) → All IsFiltered styles → 4096 ≤ k → is_listed styles k ≡ false
not_listed styles k filtered large =
    list_any_none (λ listed. eqb listed k) styles
    (λ i d within. ne_eqb (get_or styles i d) k (λ same. absurd (omega (arith, filtered i d within))))

-- where the flags of all styles that were dropped are set, a filter leaves each style so
pub with_all_dropped :
    (keep : Bool) (styles : List ℕ) (was new : List Bool) (id : ℕ) → length was ≤ id
    → ((k : ℕ) → k < 4096 → k < id → get_or new k false ≡ drops keep (get_or was k false) (is_listed styles k))
    → ((k : ℕ) → k < 4096 → id ≤ k → get_or new k false ≡ drops keep false (is_listed styles k))
    → (k : ℕ) → k < 4096 → get_or new k false ≡ drops keep (get_or was k false) (is_listed styles k)
with_all_dropped keep styles was new id end before after k small =
    ⊎_elim (before k small)
    (λ le. after k small le ∙ ap (λ b. drops keep b (is_listed styles k)) (sym (get_or_past was k false (omega arith))))
    (cases_lt k id)

-- a filter of styles below 4096, by its flags
pub filtering-by_flags :
    (keep : Bool) (styles : List ℕ) (was new : List Bool)
    → All IsFiltered styles → length was ≤ 4096 → length new ≡ 4096
    → ((k : ℕ) → k < 4096 → get_or new k false ≡ drops keep (get_or was k false) (is_listed styles k))
    → dropped_by new ≡ filtering keep styles (dropped_by was)
filtering-by_flags keep styles was new filtered was_long new_long filters =
    fun_ext (λ k. ⊎_elim (inside keep k filters) (beyond keep k) (cases_lt k 4096))
  where
    inside :
        (keep : Bool) (k : ℕ)
        → ((k : ℕ) → k < 4096 → get_or new k false ≡ drops keep (get_or was k false) (is_listed styles k))
        → k < 4096 → get_or new k false ≡ filtering keep styles (dropped_by was) k
    inside true k filters small =
        filters k small
        ∙ ap (λ b. get_or was k false || (b && not (is_listed styles k))) (sym (lt-ltb k 4096 small))
    inside false k filters small = filters k small

    beyond : (keep : Bool) (k : ℕ) → 4096 ≤ k → get_or new k false ≡ filtering keep styles (dropped_by was) k
    beyond true k large =
        get_or_past new k false (omega arith)
        ∙ sym (ap (λ b. b || (ltb k 4096 && not (is_listed styles k))) (get_or_past was k false (omega arith))
        ∙ ap (λ b. b && not (is_listed styles k)) (le-ltb k 4096 large))
    beyond false k large =
        get_or_past new k false (omega arith)
        ∙ sym (ap (λ b. b || is_listed styles k) (get_or_past was k false (omega arith)) ∙ not_listed styles k filtered large)
