-- Palettes that get one more, whose tint is new
use Rattle.std.proofs.Common.{◌≡◌, ◌≢◌, ℕ, Some, List, [], ◌∷◌, ◌++◌, AllPairs, Contains, slice_get, subst, map, length, refl, sym, ap, ◌∙◌, ◌+◌, Vec, Global, arith}
use Rattle.std.specs.Cmp.Lexicographic.{pointwise}
use Rattle.std.specs.Map.{values_of}
use Rattle.indexmap.specs.IndexMap.{insert_entry}
use Rattle.std.proofs.lemmas.Map.Entries.{length-values_of}
use Rattle.std.specs.Option.{option_map}
use Rattle.std.proofs.lemmas.Option.{slice_get-map}
use Rattle.std.proofs.lemmas.List.{get_or_default, map-append, length_push}
use Rattle.std.proofs.lemmas.List.Quantifiers.{all_pairs_push}
use Rattle.xs_pixel.specs.Channels.{Channels}
use Rattle.xs_pixel.specs.declared.pixel.Pixel.{Pixel}
use Rattle.xs_tint.specs.Tints.{tint_of, AreUnderTints}
use Rattle.xs_tint.proofs.KeyedTints.{same_pixel_tested, added, under_more, tint_exact, tint_same}

-- a palette whose tint is new goes last, and all tints still differ
tints-differ_more :
    (palettes new : List (List Channels)) (p : List Channels) → new ≡ palettes ++ p ∷ []
    → AllPairs (λ a b. a ≢ b) (map tint_of palettes) → (Contains (map tint_of palettes) (tint_of p) → ⊥)
    → AllPairs (λ a b. a ≢ b) (map tint_of new)
tints-differ_more palettes new p is differ fresh =
    subst (λ (xs : List (List Channels)). AllPairs (λ a b. a ≢ b) xs) (sym (ap (map tint_of) is ∙ map-append tint_of palettes (p ∷ [])))
    (all_pairs_push (λ a b. a ≢ b) (map tint_of palettes) (tint_of p) differ
    (λ k d lt same. fresh (k, lt, get_or_default (map tint_of palettes) k (tint_of p) d lt ∙ same)))

slice_get-last : {X : Type 0} (xs : List X) (x : X) → slice_get (xs ++ x ∷ []) (length xs) ≡ Some x
slice_get-last [] x = refl
slice_get-last (y ∷ ys) x = slice_get-last ys x

tint-last :
    (palettes new : List (List Channels)) (p : List Channels) (n : ℕ) → new ≡ palettes ++ p ∷ [] → n ≡ length palettes
    → slice_get (map tint_of new) n ≡ Some (tint_of p)
tint-last palettes new p n is at =
    ap (λ k. slice_get (map tint_of new) k) at
    ∙ ap (λ xs. slice_get (map tint_of xs) (length palettes)) is
    ∙ slice_get-map tint_of (palettes ++ p ∷ []) (length palettes)
    ∙ ap (option_map tint_of) (slice_get-last palettes p)

-- some tints with that of one palette more, which has the number n
pub record OneMore (now : List (List Channels)) (new : List (Vec Pixel Global × List Channels)) (p : List Channels) (n : ℕ) : Type 0 where
  pub under : AreUnderTints new (λ k. k.items)
  pub differ : AllPairs (λ a b. a ≢ b) (map tint_of (values_of new))
  pub count : length (values_of new) ≡ n + 1
  pub number : slice_get (map tint_of (values_of new)) n ≡ Some (tint_of p)
  pub more : map tint_of (values_of new) ≡ now ++ tint_of p ∷ []

pub one_more :
    (now : List (List Channels)) (old new : List (Vec Pixel Global × List Channels)) (tint : Vec Pixel Global) (p : List Channels) (n : ℕ)
    → map tint_of (values_of old) ≡ now → AreUnderTints old (λ k. k.items) → AllPairs (λ a b. a ≢ b) (map tint_of (values_of old))
    → tint.items ≡ tint_of p → (Contains now (tint_of p) → ⊥) → n ≡ length old
    → new ≡ insert_entry (λ x y. pointwise same_pixel_tested x.items y.items) old tint p → OneMore now new p n
one_more now old new tint p n seen under differ own fresh at is =
    let fresh_there : Contains (map tint_of (values_of old)) (tint_of p) → ⊥ =
    λ found. fresh (subst (λ (xs : List (List Channels)). Contains xs (tint_of p)) seen found) in
    let longer : values_of new ≡ values_of old ++ p ∷ [] =
    added _ (λ k. k.items) tint_exact tint_same old new tint p under own fresh_there is in
    let entries : length (values_of old) ≡ length old = length-values_of old in
    let count : length (values_of new) ≡ length (values_of old) + 1 = ap length longer ∙ length_push (values_of old) p in
    record {
      under = under_more _ (λ k. k.items) tint_exact tint_same old new tint p under own fresh_there is;
      differ = tints-differ_more (values_of old) (values_of new) p longer differ fresh_there;
      count = omega arith;
      number = tint-last (values_of old) (values_of new) p n longer (at ∙ sym entries);
      more =
          ap (map tint_of) longer
          ∙ map-append tint_of (values_of old) (p ∷ [])
          ∙ ap (λ (xs : List (List Channels)). xs ++ tint_of p ∷ []) seen;
    }
