-- Palettes under keys that tell their tints.
use Rattle.std.proofs.Common.{◌≡◌, ℕ, zero, suc, ◌<◌, Bool, true, false, cond, ◌&&◌, eqb, Vec, Global, slice_index_or, Some, is_some, List, [], ◌∷◌, ◌++◌, Contains, slice_get, subst, map, length, refl, sym, ap, ◌∙◌, arith, rules}
use Rattle.std.specs.Cmp.Lexicographic.{pointwise, pointwise_decides}
use Rattle.std.specs.Option.{option_map}
use Rattle.std.specs.Map.{values_of, lookup}
use Rattle.std.proofs.lemmas.Bool.{false≢true, eq-eqb, and_from}
use Rattle.std.proofs.lemmas.List.{map-append}
use Rattle.std.proofs.lemmas.List.Elements.{All-tail, All-push}
use Rattle.std.proofs.lemmas.Option.{slice_get-map}
use Rattle.indexmap.specs.IndexMap.{insert_entry}
use Rattle.xs_pixel.specs.Channels.{Channels}
use Rattle.xs_pixel.specs.declared.pixel.Pixel.{Pixel}
use Rattle.xs_tint.specs.Tints.{tint_of, AreUnderTints}

module _ {K : Type 0} (eq : K → K → Bool) (pixels : K → List Channels)
    (exact : (x y : K) → eq x y ≡ true → pixels x ≡ pixels y) (same : (x y : K) → pixels x ≡ pixels y → eq x y ≡ true) where
  looked_up : (es : List (K × List Channels)) (k : K) → AreUnderTints es pixels → true ≡ is_some (lookup (eq k) es)
      → option_map tint_of (lookup (eq k) es) ≡ Some (pixels k)
  looked_up [] k under there = cc
  looked_up (e ∷ es) k under there =
      by (eq k e.0) refl there (looked_up es k (All-tail (λ (e : K × List Channels). pixels e.0 ≡ tint_of e.1) e es under))
    where
      by : (t : Bool) → eq k e.0 ≡ t → true ≡ is_some (cond t (Some e.1) (lookup (eq k) es))
          → (true ≡ is_some (lookup (eq k) es) → option_map tint_of (lookup (eq k) es) ≡ Some (pixels k))
          → option_map tint_of (cond t (Some e.1) (lookup (eq k) es)) ≡ Some (pixels k)
      by true is there rest = ap (λ (t : List Channels). Some t) (sym (under 0 e (omega arith)) ∙ sym (exact k e.0 is))
      by false is there rest = rest there

  -- the palette under an equal key has the tint
  pub found : (es : List (K × List Channels)) (k : K) (i : ℕ) → AreUnderTints es pixels → true ≡ is_some (lookup (eq k) es)
      → slice_get (values_of es) i ≡ lookup (eq k) es → slice_get (map tint_of (values_of es)) i ≡ Some (pixels k)
  found es k i under there at =
      slice_get-map tint_of (values_of es) i ∙ ap (option_map tint_of) at ∙ looked_up es k under there

  -- a tint under no equal key is none of theirs
  pub absent : (es : List (K × List Channels)) (k : K) → AreUnderTints es pixels → false ≡ is_some (lookup (eq k) es)
      → Contains (map tint_of (values_of es)) (pixels k) → ⊥
  absent [] k under none (i, inside, is) = absurd (omega arith)
  absent (e ∷ es) k under none (i, inside, is) =
      by (eq k e.0) refl none (absent es k (All-tail (λ (e : K × List Channels). pixels e.0 ≡ tint_of e.1) e es under)) i inside is
    where
      by : (t : Bool) → eq k e.0 ≡ t → false ≡ is_some (cond t (Some e.1) (lookup (eq k) es))
          → (false ≡ is_some (lookup (eq k) es) → Contains (map tint_of (values_of es)) (pixels k) → ⊥)
          → (i : ℕ) → i < length (map tint_of (values_of (e ∷ es)))
          → slice_index_or (map tint_of (values_of (e ∷ es))) i (pixels k) ≡ pixels k → ⊥
      by true is none rest i inside at = cc
      by false is none rest zero inside at = false≢true (sym is ∙ same k e.0 (sym at ∙ sym (under 0 e (omega arith))))
      by false is none rest (suc i) inside at = rest none (i, omega arith, at)

  missing : (es : List (K × List Channels)) (k : K) (v : List Channels) → AreUnderTints es pixels
      → (Contains (map tint_of (values_of es)) (pixels k) → ⊥) → insert_entry eq es k v ≡ es ++ (k, v) ∷ []
  missing [] k v under fresh = refl
  missing (e ∷ es) k v under fresh =
      by (eq k e.0) refl
      (missing es k v (All-tail (λ (e : K × List Channels). pixels e.0 ≡ tint_of e.1) e es under)
      (λ (i, inside, at). fresh (suc i, omega arith, at)))
    where
      by : (t : Bool) → eq k e.0 ≡ t → insert_entry eq es k v ≡ es ++ (k, v) ∷ []
          → cond t ((e.0, v) ∷ es) (e ∷ insert_entry eq es k v) ≡ e ∷ (es ++ (k, v) ∷ [])
      by true is rest = absurd (fresh (0, omega arith, sym (under 0 e (omega arith)) ∙ sym (exact k e.0 is)))
      by false is rest = ap (λ (xs : List (K × List Channels)). e ∷ xs) rest

  module _ (es new : List (K × List Channels)) (k : K) (p : List Channels) (under : AreUnderTints es pixels) (own : pixels k ≡ tint_of p)
      (fresh : Contains (map tint_of (values_of es)) (tint_of p) → ⊥) (is : new ≡ insert_entry eq es k p) where
    last : new ≡ es ++ (k, p) ∷ []
    last = is ∙ missing es k p under (λ at. fresh (subst (λ (t : List Channels). Contains (map tint_of (values_of es)) t) own at))

    -- a palette that is new comes last
    pub added : values_of new ≡ values_of es ++ p ∷ []
    added = ap values_of last ∙ map-append (λ (e : K × List Channels). e.1) es ((k, p) ∷ [])

    pub under_more : AreUnderTints new pixels
    under_more =
        subst (λ (xs : List (K × List Channels)). AreUnderTints xs pixels) (sym last)
        (All-push (λ (e : K × List Channels). pixels e.0 ≡ tint_of e.1) es (k, p) under own)

-- ---- lists of pixels compare as equal just where they are

abbrev pub same_pixel_tested : Channels → Channels → Bool
same_pixel_tested p q = eqb p.r q.r && (eqb p.g q.g && (eqb p.b q.b && eqb p.m q.m))

pixels_decide : (p q : Channels) → (same_pixel_tested p q ≡ true → p ≡ q) × (p ≡ q → same_pixel_tested p q ≡ true)
pixels_decide p q = (
  λ is. search rules,
  λ is.
      and_from _ _ (eq-eqb p.r q.r (ap (λ (c : Channels). c.r) is))
      (and_from _ _ (eq-eqb p.g q.g (ap (λ (c : Channels). c.g) is))
      (and_from _ _ (eq-eqb p.b q.b (ap (λ (c : Channels). c.b) is)) (eq-eqb p.m q.m (ap (λ (c : Channels). c.m) is)))),
)

pub tint_exact : (x y : Vec Pixel Global) → pointwise same_pixel_tested x.items y.items ≡ true → x.items ≡ y.items
tint_exact x y = (pointwise_decides pixels_decide x.items y.items).0

pub tint_same : (x y : Vec Pixel Global) → x.items ≡ y.items → pointwise same_pixel_tested x.items y.items ≡ true
tint_same x y = (pointwise_decides pixels_decide x.items y.items).1
