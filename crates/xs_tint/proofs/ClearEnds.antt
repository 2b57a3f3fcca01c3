-- The clear pixels at the end of a list, of pixels that are read by number.
use Rattle.std.proofs.Common.{◌≡◌, ℕ, ◌+◌, ◌-◌, ◌<◌, Bool, true, false, not, ◌&&◌, eqb, List, [], ◌∷◌, ◌++◌, map, refl, sym, ap, ◌∙◌, arith}
use Rattle.std.specs.List.{range_with_len}
use Rattle.std.proofs.lemmas.List.FromFn.{map-range_with_len_more}
use Rattle.xs_pixel.specs.Channels.{Channels}
use Rattle.xs_meaning.specs.Palettes.{is_clear_pixel, before, without_clear_end}

before_more : (x : Channels) (xs : List Channels) (p : Channels) → before x (xs ++ p ∷ []) ≡ x ∷ (xs ++ p ∷ [])
before_more x [] p = refl
before_more x (y ∷ ys) p = refl

clear_last : (xs : List Channels) (p : Channels) → is_clear_pixel p ≡ true → without_clear_end (xs ++ p ∷ []) ≡ without_clear_end xs
clear_last [] p is = rw is refl
clear_last (x ∷ xs) p is = ap (before x) (clear_last xs p is)

shown_last : (xs : List Channels) (p : Channels) → is_clear_pixel p ≡ false → without_clear_end (xs ++ p ∷ []) ≡ xs ++ p ∷ []
shown_last [] p is = rw is refl
shown_last (x ∷ xs) p is = ap (before x) (shown_last xs p is) ∙ before_more x xs p

-- a pixel that is tested channel by channel
regroup : (r g b m : Bool) → ((r && g) && (b && m)) ≡ (r && (g && (b && m)))
regroup true g b m = refl
regroup false g b m = refl

is_clear_tested : (p x : Channels) (differs : Bool) → x ≡ p
    → differs ≡ not (eqb x.r 0 && (eqb x.g 0 && (eqb x.b 0 && eqb x.m 0))) → differs ≡ not (is_clear_pixel p)
is_clear_tested p x differs same is =
    is ∙ ap not (sym (regroup (eqb x.r 0) (eqb x.g 0) (eqb x.b 0) (eqb x.m 0))) ∙ ap (λ q. not (is_clear_pixel q)) same

not_true : (b : Bool) → true ≡ not b → b ≡ false
not_true true is = cc
not_true false is = refl

not_false : (b : Bool) → false ≡ not b → b ≡ true
not_false true is = refl
not_false false is = cc

module _ (f : ℕ → Channels) (n : ℕ) (here : 0 < n) (x : Channels) (same : x ≡ f (n - 1)) (differs : Bool)
    (tested : differs ≡ not (eqb x.r 0 && (eqb x.g 0 && (eqb x.b 0 && eqb x.m 0)))) where
  split : map f (range_with_len 0 n) ≡ map f (range_with_len 0 (n - 1)) ++ f (n - 1) ∷ []
  split =
      ap (λ k. map f (range_with_len 0 k)) (let back : n ≡ (n - 1) + 1 = omega arith in back)
      ∙ map-range_with_len_more f 0 (n - 1) (n - 1) (omega arith)

  -- where the last of them isn't clear, nothing is left out
  pub shown_end : differs ≡ true → map f (range_with_len 0 n) ≡ without_clear_end (map f (range_with_len 0 n))
  shown_end is =
      let last : is_clear_pixel (f (n - 1)) ≡ false = not_true _ (sym is ∙ is_clear_tested (f (n - 1)) x differs same tested) in
      split ∙ sym (shown_last (map f (range_with_len 0 (n - 1))) (f (n - 1)) last) ∙ ap without_clear_end (sym split)

  -- where it is, it is left out
  pub clear_end : differs ≡ false
      → without_clear_end (map f (range_with_len 0 (n - 1))) ≡ without_clear_end (map f (range_with_len 0 n))
  clear_end is =
      let last : is_clear_pixel (f (n - 1)) ≡ true = not_false _ (sym is ∙ is_clear_tested (f (n - 1)) x differs same tested) in
      sym (ap without_clear_end split ∙ clear_last (map f (range_with_len 0 (n - 1))) (f (n - 1)) last)
