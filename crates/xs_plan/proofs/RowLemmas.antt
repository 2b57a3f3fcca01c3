-- Lemmas on rows: which row a place among the roots is in, and which rows end before an alias
use Rattle.std.proofs.Common.{◌≡◌, ◌<◌, ◌≤◌, ◌+◌, ◌*◌, ◌/◌, ◌%◌, ℕ, cond, leb, List, [], ◌∷◌, ◌++◌, Some, All, length, slice_get, count_by, refl, sym, ap, ◌∙◌, subst, ⊎_elim, arith, add-zero, ◌⊎◌, inl, inr}
use Rattle.std.proofs.lemmas.Bool.{le-leb, lt-leb, cases_lt}
use Rattle.std.proofs.lemmas.List.{get_or_push, length_push}
use Rattle.std.proofs.lemmas.List.Elements.{All-head, All-tail, All-weaker, All-push}
use Rattle.std.proofs.lemmas.List.Sums.{sum_by-cons, sum_by_push}
use Rattle.std.proofs.lemmas.Nat.{div-mul-add, div-add-mod'}
use Rattle.std.proofs.lemmas.Option.{slice_get_within, get_or_from_slice_get}
use Rattle.xs_plan.specs.Valid.{AreEnds}
use Rattle.xs_plan.proofs.ReadLemmas.{slice_get-append_left}

-- ---- places

pub place_next : (place tiles : ℕ) → 0 < tiles
    → ((place + 1) / tiles ≡ place / tiles) × (0 < (place + 1) % tiles)
    ⊎ ((place + 1) / tiles ≡ place / tiles + 1) × ((place + 1) % tiles ≡ 0)
place_next place tiles some =
    let row = place / tiles in
    let tile = place % tiles in
    let parts : row * tiles + tile ≡ place = div-add-mod' place tiles in
    let below : tile < tiles = omega arith in
    let next : (place + 1) / tiles * tiles + (place + 1) % tiles ≡ place + 1 = div-add-mod' (place + 1) tiles in
    ⊎_elim
    (λ short.
    let same : (place + 1) / tiles ≡ row =
    ap (λ p. p / tiles) (let e : place + 1 ≡ row * tiles + (tile + 1) = omega arith in e) ∙ div-mul-add row tiles (tile + 1) short in
    let product = ap (λ r. r * tiles) same in
    inl (same, omega arith))
    (λ long.
    let more : (row + 1) * tiles ≡ row * tiles + tiles = omega arith in
    let same : (place + 1) / tiles ≡ row + 1 =
    ap (λ p. p / tiles) (let e : place + 1 ≡ (row + 1) * tiles + 0 = omega arith in e) ∙ div-mul-add (row + 1) tiles 0 some in
    let product = ap (λ r. r * tiles) same in
    inr (same, omega arith))
    (cases_lt (tile + 1) tiles)

-- ---- ends

-- how many rows end before an alias comes
abbrev pub ended_by : List ℕ → ℕ → ℕ
ended_by ends k = count_by (λ end. leb end k) ends

pub ended_by-all : (ends : List ℕ) (k : ℕ) → All (λ end. end ≤ k) ends → ended_by ends k ≡ length ends
ended_by-all [] k all = refl
ended_by-all (end ∷ ends) k all =
    sum_by-cons (λ end. cond (leb end k) 1 0) end ends
    ∙ ap (λ b. cond b 1 0 + ended_by ends k) (le-leb end k (All-head (λ end. end ≤ k) end ends all))
    ∙ (let rest = ended_by-all ends k (All-tail (λ end. end ≤ k) end ends all) in omega arith)

pub ended_by-push : (ends : List ℕ) (end k : ℕ) → k < end → ended_by (ends ++ end ∷ []) k ≡ ended_by ends k
ended_by-push ends end k later =
    sum_by_push (λ end. cond (leb end k) 1 0) ends end
    ∙ ap (λ b. ended_by ends k + cond b 1 0) (lt-leb end k later)
    ∙ add-zero (ended_by ends k)

All-slice_get : {A : Type 0} (P : A → Type 0) (xs : List A) (i : ℕ) (x : A) → slice_get xs i ≡ Some x → All P xs → P x
All-slice_get P xs i x at all =
    subst P (get_or_from_slice_get xs i x x at) (all i x (slice_get_within xs i x at))

pub AreEnds-more : {ends : List ℕ} {aliases more : ℕ} → aliases ≤ more → AreEnds ends aliases → AreEnds ends more
AreEnds-more {ends} {aliases} {more} le are =
    record {
      rise = are.rise;
      within = All-weaker (λ end. end ≤ aliases) (λ end. end ≤ more) (λ end h. omega arith) ends are.within;
    }

pub AreEnds-push : {ends : List ℕ} {aliases more : ℕ} → aliases ≤ more → AreEnds ends aliases → AreEnds (ends ++ more ∷ []) more
AreEnds-push {ends} {aliases} {more} le are =
    record {
      rise = λ row later end next order at then.
          ⊎_elim
          (λ old.
          are.rise row later end next order
          (sym (slice_get-append_left ends (more ∷ []) row (omega arith)) ∙ at)
          (sym (slice_get-append_left ends (more ∷ []) later old) ∙ then))
          (λ new. last row later end next new at then)
          (cases_lt later (length ends));
      within = all;
    }
  where
    all : All (λ end. end ≤ more) (ends ++ more ∷ [])
    all = All-push (λ end. end ≤ more) ends more (AreEnds-more le are).within (omega arith)

    last : (row later end next : ℕ) → length ends ≤ later → slice_get (ends ++ more ∷ []) row ≡ Some end
        → slice_get (ends ++ more ∷ []) later ≡ Some next → end ≤ next
    last row later end next new at then =
        let short = slice_get_within (ends ++ more ∷ []) later next then in
        let long = length_push ends more in
        let here : later ≡ length ends = omega arith in
        let is : more ≡ next =
        sym (get_or_push ends more 0 later (sym here)) ∙ get_or_from_slice_get (ends ++ more ∷ []) later next 0 then in
        let below = All-slice_get (λ end. end ≤ more) (ends ++ more ∷ []) row end at all in
        omega arith
