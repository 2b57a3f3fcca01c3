-- What places show, while places and tints are added
use Rattle.std.proofs.Common.{◌≡◌, ◌<◌, ◌≤◌, ◌+◌, ◌*◌, suc, ℕ, List, [], ◌∷◌, ◌++◌, Some, length, slice_get, refl, sym, ap, ◌∙◌, arith}
use Rattle.std.proofs.lemmas.List.{length_push, get_or_append_left}
use Rattle.std.proofs.lemmas.List.Sums.{sum_by-cons}
use Rattle.std.proofs.lemmas.Option.{slice_get_within}
use Rattle.xs_pixel.specs.Channels.{Channels}
use Rattle.xs_pixel.specs.Points.{point}
use Rattle.xs_meaning.specs.Expressions.{Tinted, Pair, Blur}
use Rattle.xs_demand.specs.Blocks.{Spread, spread}
use Rattle.xs_demand.proofs.PlaceLemmas.{place-append}
use Rattle.xs_alias.specs.declared.key.Key.{Key}
use Rattle.xs_alias.specs.declared.key.Key.TheVariants as key
use Rattle.xs_entered.specs.declared.place.Place.{Place}
use Rattle.xs_entered.specs.Entered.{spread_at}
use Rattle.xs_entered.specs.Places.{made, shows, shown_after, shown, IsInput, IsFounded, Stands, inputs_by, inputs_held}

module _ (tints : List (List Channels)) where
  length-shown_after : (l : List Spread) (places : List Place) → length (shown_after tints l places) ≡ length l + length places
  length-shown_after l [] = omega arith
  length-shown_after l (p ∷ places) =
      let rest = length-shown_after (l ++ shows tints l p ∷ []) places in
      let longer = length_push l (shows tints l p) in
      omega arith

  pub length-shown : (places : List Place) → length (shown tints places) ≡ length places
  length-shown places = let all = length-shown_after [] places in omega arith

  shown_after-append :
      (l : List Spread) (places more : List Place)
      → shown_after tints l (places ++ more) ≡ shown_after tints (shown_after tints l places) more
  shown_after-append l [] more = refl
  shown_after-append l (p ∷ places) more = shown_after-append (l ++ shows tints l p ∷ []) places more

  pub shown-push :
      (places : List Place) (p : Place) → shown tints (places ++ p ∷ []) ≡ shown tints places ++ shows tints (shown tints places) p ∷ []
  shown-push places p = shown_after-append [] places (p ∷ [])

-- ---- more tints

-- the tint of a key is one of so many
abbrev pub IsTinted : ℕ → Key → Type 0
IsTinted count key.Clear = Unit {0}
IsTinted count (key.Leaf d x y) = Unit {0}
IsTinted count (key.Tinted d x y tint) = tint < count
IsTinted count (key.Card p) = Unit {0}
IsTinted count (key.Pair op a b) = Unit {0}
IsTinted count (key.Blur a r) = Unit {0}

pub founded_tinted : (count : ℕ) (l : List Spread) (n g : ℕ) (k : Key) → IsFounded count l n g k → IsTinted count k
founded_tinted count l n g key.Clear founded = tt
founded_tinted count l n g (key.Leaf d x y) founded = tt
founded_tinted count l n g (key.Tinted d x y tint) founded = founded
founded_tinted count l n g (key.Card p) founded = tt
founded_tinted count l n g (key.Pair op a b) founded = tt
founded_tinted count l n g (key.Blur a r) founded = tt

pub made-tints :
    (tints more : List (List Channels)) (l : List Spread) (k : Key) → IsTinted (length tints) k
    → made (tints ++ more) l k ≡ made tints l k
made-tints tints more l key.Clear tinted = refl
made-tints tints more l (key.Leaf d x y) tinted = refl
made-tints tints more l (key.Tinted d x y tint) tinted =
    ap (λ t. Tinted d (point x y) t) (get_or_append_left tints more [] tint tinted)
made-tints tints more l (key.Card p) tinted = refl
made-tints tints more l (key.Pair op a b) tinted = refl
made-tints tints more l (key.Blur a r) tinted = refl

abbrev pub AreTinted : ℕ → List Place → Type 0
AreTinted count places = (n : ℕ) (p : Place) → slice_get places n ≡ Some p → IsTinted count p.key

shown_after-tints :
    (tints more : List (List Channels)) (l : List Spread) (places : List Place) → AreTinted (length tints) places
    → shown_after (tints ++ more) l places ≡ shown_after tints l places
shown_after-tints tints more l [] tinted = refl
shown_after-tints tints more l (p ∷ places) tinted =
    ap (λ e. shown_after (tints ++ more) (l ++ spread e p.growth ∷ []) places) (made-tints tints more l p.key (tinted 0 p refl))
    ∙ shown_after-tints tints more (l ++ shows tints l p ∷ []) places (λ n q at. tinted (suc n) q at)

pub shown-tints :
    (tints more : List (List Channels)) (places : List Place) → AreTinted (length tints) places
    → shown (tints ++ more) places ≡ shown tints places
shown-tints tints more places tinted = shown_after-tints tints more [] places tinted

-- ---- more places

module _ (l more : List Spread) where
  input_kept : (n g a : ℕ) → n ≤ length l → IsInput l n g a → spread_at (l ++ more) a ≡ spread_at l a
  input_kept n g a within input = get_or_append_left l more _ a (omega (arith, input.0))

  input_stays : (n g a : ℕ) → n ≤ length l → IsInput l n g a → IsInput (l ++ more) n g a
  input_stays n g a within input = (input.0, ap (λ (x : Spread). x.growth) (input_kept n g a within input) ∙ input.1)

  pub made-kept :
      (tints : List (List Channels)) (count n g : ℕ) (k : Key) → n ≤ length l → IsFounded count l n g k
      → made tints (l ++ more) k ≡ made tints l k
  made-kept tints count n g key.Clear within founded = refl
  made-kept tints count n g (key.Leaf d x y) within founded = refl
  made-kept tints count n g (key.Tinted d x y tint) within founded = refl
  made-kept tints count n g (key.Card p) within founded = refl
  made-kept tints count n g (key.Pair op a b) within founded =
      λ i. Pair op (input_kept n g a within founded.0 i).expr (input_kept n g b within founded.1 i).expr
  made-kept tints count n g (key.Blur a r) within founded =
      λ i. Blur r (input_kept n (g + r) a within founded i).expr

  pub founded-kept :
      (count counted n g : ℕ) (k : Key) → n ≤ length l → count ≤ counted → IsFounded count l n g k
      → IsFounded counted (l ++ more) n g k
  founded-kept count counted n g key.Clear within upto founded = tt
  founded-kept count counted n g (key.Leaf d x y) within upto founded = tt
  founded-kept count counted n g (key.Tinted d x y tint) within upto founded = omega (arith, founded)
  founded-kept count counted n g (key.Card p) within upto founded = tt
  founded-kept count counted n g (key.Pair op a b) within upto founded =
      (input_stays n g a within founded.0, input_stays n g b within founded.1)
  founded-kept count counted n g (key.Blur a r) within upto founded = input_stays n (g + r) a within founded

  pub stands-kept :
      (tints later : List (List Channels)) (n : ℕ) (p : Place) → length tints ≤ length (tints ++ later) → Stands tints l n p
      → Stands (tints ++ later) (l ++ more) n p
  stands-kept tints later n p longer stands =
      let within = slice_get_within l n _ stands.is in
      let there : n ≤ length l = omega arith in
      record {
        is =
            place-append l more n _ stands.is
            ∙ ap (λ e. Some (spread e p.growth))
            (sym (made-kept tints (length tints) n p.growth p.key there stands.founded)
            ∙ sym (made-tints tints later (l ++ more) p.key
            (founded_tinted (length tints) l n p.growth p.key stands.founded)));
        founded = founded-kept (length tints) (length (tints ++ later)) n p.growth p.key there longer stands.founded;
      }

-- ---- counts of inputs

ports_few : (k : Key) → length (inputs_by k) ≤ 2
ports_few key.Clear = omega arith
ports_few (key.Leaf d x y) = omega arith
ports_few (key.Tinted d x y tint) = omega arith
ports_few (key.Card p) = omega arith
ports_few (key.Pair op a b) = omega arith
ports_few (key.Blur a r) = omega arith

pub inputs_few : (places : List Place) → inputs_held places ≤ 2 * length places
inputs_few [] = omega arith
inputs_few (p ∷ places) =
    let step = sum_by-cons (λ (q : Place). length (inputs_by q.key)) p places in
    omega (arith, ports_few p.key, inputs_few places)
