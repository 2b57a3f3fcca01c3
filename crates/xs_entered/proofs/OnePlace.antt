-- What was entered has one place
use Rattle.std.proofs.Common.{◌≡◌, ◌≢◌, ◌≤◌, ◌<◌, ◌+◌, ℕ, List, [], Some, AllPairs, Contains, length, slice_get, get_or, refl, sym, ap, ◌∙◌, subst, arith}
use Rattle.std.proofs.lemmas.Option.{slice_get-get_or, slice_get_within}
use Rattle.xs_pixel.specs.Channels.{Channels}
use Rattle.xs_pixel.specs.Points.{Point, point}
use Rattle.xs_meaning.specs.Expressions.{Clear}
use Rattle.xs_demand.specs.Blocks.{Spread, spread}
use Rattle.xs_demand.proofs.PlaceLemmas.{same_place, contained}
use Rattle.xs_alias.specs.declared.key.Key.{Key}
use Rattle.xs_alias.specs.declared.key.Key.TheVariants as key
use Rattle.xs_entered.specs.declared.place.Place.{Place}
use Rattle.xs_entered.specs.Entered.{spread_at}
use Rattle.xs_entered.specs.Places.{made, shows, IsInput, IsFounded, Stands}

module _ (tints : List (List Channels)) (differ : AllPairs (λ s t. s ≢ t) tints) (l : List Spread) (apart : AllPairs (λ x y. x ≢ y) l) where
  same_tints : (t u : ℕ) → t < length tints → u < length tints → get_or tints t [] ≡ get_or tints u [] → t ≡ u
  same_tints t u here there same =
      same_place tints differ t u (get_or tints t []) (slice_get-get_or tints t [] here)
      (slice_get-get_or tints u [] there ∙ ap (λ y. Some y) (sym same))

  same_spreads : (a c : ℕ) → a < length l → c < length l → spread_at l a ≡ spread_at l c → a ≡ c
  same_spreads a c here there same =
      same_place l apart a c (spread_at l a) (slice_get-get_or l a (spread Clear 0) here)
      (slice_get-get_or l c (spread Clear 0) there ∙ ap (λ y. Some y) (sym same))

  same_inputs :
      (m n g a c : ℕ) → m ≤ length l → n ≤ length l → IsInput l m g a → IsInput l n g c
      → (spread_at l a).expr ≡ (spread_at l c).expr → a ≡ c
  same_inputs m n g a c first second input other same =
      same_spreads a c (omega (arith, input.0)) (omega (arith, other.0))
      (λ i. spread (same i) ((input.1 ∙ sym other.1) i))

  same_blurred :
      (m n g r s a c : ℕ) → m ≤ length l → n ≤ length l → IsInput l m (g + r) a → IsInput l n (g + s) c → r ≡ s
      → (spread_at l a).expr ≡ (spread_at l c).expr → a ≡ c
  same_blurred m n g r s a c first second input other radius same =
      same_inputs m n (g + r) a c first second input (other.0, other.1 ∙ ap (λ q. g + q) (sym radius)) same

  module _ (m n g : ℕ) (first : m ≤ length l) (second : n ≤ length l) where
    same_keys :
        (k q : Key) → IsFounded (length tints) l m g k → IsFounded (length tints) l n g q
        → made tints l k ≡ made tints l q → k ≡ q
    same_keys key.Clear key.Clear here there same = refl
    same_keys key.Clear (key.Leaf f v w) here there same = cc
    same_keys key.Clear (key.Tinted f v w u) here there same = cc
    same_keys key.Clear (key.Card p) here there same = cc
    same_keys key.Clear (key.Pair o c e) here there same = cc
    same_keys key.Clear (key.Blur c s) here there same = cc
    same_keys (key.Leaf d x y) key.Clear here there same = cc
    same_keys (key.Leaf d x y) (key.Leaf f v w) here there same =
        let at : point x y ≡ point v w = cc in
        let right : x ≡ v = ap (λ (p : Point). p.x) at in
        let up : y ≡ w = ap (λ (p : Point). p.y) at in
        cc
    same_keys (key.Leaf d x y) (key.Tinted f v w u) here there same = cc
    same_keys (key.Leaf d x y) (key.Card p) here there same = cc
    same_keys (key.Leaf d x y) (key.Pair o c e) here there same = cc
    same_keys (key.Leaf d x y) (key.Blur c s) here there same = cc
    same_keys (key.Tinted d x y t) key.Clear here there same = cc
    same_keys (key.Tinted d x y t) (key.Leaf f v w) here there same = cc
    same_keys (key.Tinted d x y t) (key.Tinted f v w u) here there same =
        let at : point x y ≡ point v w = cc in
        let right : x ≡ v = ap (λ (p : Point). p.x) at in
        let up : y ≡ w = ap (λ (p : Point). p.y) at in
        let tint : t ≡ u = same_tints t u here there cc in
        cc
    same_keys (key.Tinted d x y t) (key.Card p) here there same = cc
    same_keys (key.Tinted d x y t) (key.Pair o c e) here there same = cc
    same_keys (key.Tinted d x y t) (key.Blur c s) here there same = cc
    same_keys (key.Card p) key.Clear here there same = cc
    same_keys (key.Card p) (key.Leaf f v w) here there same = cc
    same_keys (key.Card p) (key.Tinted f v w u) here there same = cc
    same_keys (key.Card p) (key.Card q) here there same = cc
    same_keys (key.Card p) (key.Pair o c e) here there same = cc
    same_keys (key.Card p) (key.Blur c s) here there same = cc
    same_keys (key.Pair op a b) key.Clear here there same = cc
    same_keys (key.Pair op a b) (key.Leaf f v w) here there same = cc
    same_keys (key.Pair op a b) (key.Tinted f v w u) here there same = cc
    same_keys (key.Pair op a b) (key.Card p) here there same = cc
    same_keys (key.Pair op a b) (key.Pair o c e) here there same =
        let one : a ≡ c = same_inputs m n g a c first second here.0 there.0 cc in
        let other : b ≡ e = same_inputs m n g b e first second here.1 there.1 cc in
        cc
    same_keys (key.Pair op a b) (key.Blur c s) here there same = cc
    same_keys (key.Blur a r) key.Clear here there same = cc
    same_keys (key.Blur a r) (key.Leaf f v w) here there same = cc
    same_keys (key.Blur a r) (key.Tinted f v w u) here there same = cc
    same_keys (key.Blur a r) (key.Card p) here there same = cc
    same_keys (key.Blur a r) (key.Pair o c e) here there same = cc
    same_keys (key.Blur a r) (key.Blur c s) here there same =
        let radius : r ≡ s = cc in
        let input : a ≡ c = same_blurred m n g r s a c first second here there radius cc in
        cc

  -- what a place that is founded shows stands in the list only where a place like it does
  pub one_place :
      (places : List Place) (p : Place) → length l ≡ length places
      → ((m : ℕ) (q : Place) → slice_get places m ≡ Some q → Stands tints l m q)
      → IsFounded (length tints) l (length l) p.growth p.key → (m : ℕ) → slice_get l m ≡ Some (shows tints l p)
      → Contains places p
  one_place places p long each founded m at =
      let within = slice_get_within l m _ at in
      let there = slice_get-get_or places m p (omega arith) in
      let q : Place = get_or places m p in
      let stands = each m q there in
      let same : Some (shows tints l q) ≡ Some (shows tints l p) = sym stands.is ∙ at in
      let equal : shows tints l q ≡ shows tints l p = cc in
      let growth : q.growth ≡ p.growth = ap (λ (x : Spread). x.growth) equal in
      let key : q.key ≡ p.key =
      same_keys m (length l) p.growth (omega arith) (omega arith) q.key p.key
      (subst (λ g. IsFounded (length tints) l m g q.key) growth stands.founded) founded
      (ap (λ (x : Spread). x.expr) equal) in
      contained places m p (there ∙ λ i. Some (record { key = key i; growth = growth i }))
