-- What holds after a place was put
use Rattle.std.proofs.Common.{◌≡◌, ◌≢◌, ◌<◌, ◌≤◌, ◌+◌, ◌^◌, ℕ, List, [], ◌∷◌, ◌++◌, Some, AllPairs, Contains, length, map, fold, slice_get, refl, sym, ap, ◌∙◌, subst, inl, inr, arith}
use Rattle.std.specs.List.{list_any, filter_map}
use Rattle.std.proofs.lemmas.Bool.{cond-true, cond-false, false_from_ne_true}
use Rattle.std.proofs.lemmas.List.{length_push, map-append, get_or_push}
use Rattle.std.proofs.lemmas.List.Elements.{filter_map-append}
use Rattle.std.proofs.lemmas.List.Sums.{fold-append, sum_by-append}
use Rattle.std.proofs.lemmas.List.Quantifiers.{all_pairs_push}
use Rattle.std.proofs.lemmas.Option.{slice_get-get_or}
use Rattle.xs_pixel.specs.Channels.{Channels}
use Rattle.xs_demand.specs.Blocks.{Spread, spread, same_spread, put, inputs_under, inputs_entered, Puts}
use Rattle.xs_demand.specs.Shown.{tint_in, with_tint, tints_in}
use Rattle.xs_demand.proofs.SameLemmas.{Decides-same_spread_in}
use Rattle.xs_demand.proofs.PlaceLemmas.{before_or_last, contained}
use Rattle.xs_alias.specs.declared.key.Key.{Key}
use Rattle.xs_alias.specs.declared.key.Key.TheVariants as key
use Rattle.xs_entered.specs.declared.place.Place.{Place}
use Rattle.xs_entered.specs.Entered.{tints_entered}
use Rattle.xs_entered.specs.Places.{made, shows, shown, IsFounded, Stands, inputs_by, inputs_held, IsHeld, IsPut}
use Rattle.xs_entered.proofs.ShownPlaces.{length-shown, shown-push, founded_tinted, AreTinted, shown-tints, made-kept, founded-kept, stands-kept}
use Rattle.xs_entered.proofs.OnePlace.{one_place}

-- ---- a spread put

pub put-old : (x : Spread) (l : List Spread) → Contains l x → put x l ≡ l
put-old x l there = cond-true (list_any (same_spread x) l) l (l ++ x ∷ []) ((Decides-same_spread_in l x).1 there)

pub put-new : (x : Spread) (l : List Spread) → (Contains l x → ⊥) → put x l ≡ l ++ x ∷ []
put-new x l absent =
    cond-false (list_any (same_spread x) l) l (l ++ x ∷ [])
    (false_from_ne_true (list_any (same_spread x) l) (λ found. absent ((Decides-same_spread_in l x).0 found)))

-- ---- one more

pub tints_entered-push :
    (l : List Spread) (x : Spread)
    → tints_entered (l ++ x ∷ []) ≡ fold with_tint (tints_entered l) (filter_map tint_in (x.expr ∷ []))
tints_entered-push l x =
    ap tints_in (map-append (λ (y : Spread). y.expr) l (x ∷ []))
    ∙ ap (fold with_tint []) (filter_map-append tint_in (map (λ (y : Spread). y.expr) l) (x.expr ∷ []))
    ∙ fold-append with_tint [] (filter_map tint_in (map (λ (y : Spread). y.expr) l)) (filter_map tint_in (x.expr ∷ []))

inputs_entered-push :
    (l : List Spread) (x : Spread) → inputs_entered (l ++ x ∷ []) ≡ inputs_entered l + length (inputs_under x.expr x.growth)
inputs_entered-push l x =
    let all = sum_by-append (λ (y : Spread). length (inputs_under y.expr y.growth)) l (x ∷ []) in
    omega arith

inputs_held-push : (places : List Place) (p : Place) → inputs_held (places ++ p ∷ []) ≡ inputs_held places + length (inputs_by p.key)
inputs_held-push places p =
    let all = sum_by-append (λ (q : Place). length (inputs_by q.key)) places (p ∷ []) in
    omega arith

ports-made : (tints : List (List Channels)) (l : List Spread) (k : Key) (g : ℕ) → length (inputs_by k) ≡ length (inputs_under (made tints l k) g)
ports-made tints l key.Clear g = refl
ports-made tints l (key.Leaf d x y) g = refl
ports-made tints l (key.Tinted d x y tint) g = refl
ports-made tints l (key.Card p) g = refl
ports-made tints l (key.Pair op a b) g = refl
ports-made tints l (key.Blur a r) g = refl

-- ---- a place put

-- places and tints hold what they held, and what a place shows besides, which has this number
pub record Holds (was tints : List (List Channels)) (old new : List Place) (inputs : ℕ) (p : Place) (n : ℕ) : Type 0 where
  pub held : IsHeld tints new inputs
  pub puts : Puts (shown was old) (shown tints new) (shows tints (shown was old) p) n
  pub at_least : length (shown was old) ≤ length (shown tints new)

old_place :
    (tints : List (List Channels)) (old : List Place) (inputs : ℕ) (p : Place) (n : ℕ) → IsHeld tints old inputs
    → slice_get old n ≡ Some p → Holds tints tints old old inputs p n
old_place tints old inputs p n held at =
    let stands = held.each n p at in
    record {
      held = held;
      puts = record { now = sym (put-old _ _ (contained (shown tints old) n _ stands.is)); at = stands.is };
      at_least = omega arith;
    }

module _
    (was later : List (List Channels)) (old : List Place) (before inputs : ℕ) (p : Place) (held : IsHeld was old before)
    (founded : IsFounded (length (was ++ later)) (shown was old) (length (shown was old)) p.growth p.key)
    (room : length old + 1 < 2 ^ 31) (absent : Contains old p → ⊥) (counted : inputs ≡ inputs_held (old ++ p ∷ []))
    (differ : AllPairs (λ s t. s ≢ t) (was ++ later)) (longer : length was ≤ length (was ++ later))
    (tints_are : was ++ later ≡ tints_entered (shown was old ++ shows (was ++ later) (shown was old) p ∷ [])) where
  abbrev l : List Spread
  l = shown was old

  abbrev x : Spread
  x = shows (was ++ later) l p

  tinted : AreTinted (length was) old
  tinted n q at = founded_tinted (length was) l n q.growth q.key (held.each n q at).founded

  stays : shown (was ++ later) old ≡ l
  stays = shown-tints was later old tinted

  is : shown (was ++ later) (old ++ p ∷ []) ≡ l ++ x ∷ []
  is = shown-push (was ++ later) old p ∙ ap (λ k. k ++ shows (was ++ later) k p ∷ []) stays

  kept : made (was ++ later) (l ++ x ∷ []) p.key ≡ made (was ++ later) l p.key
  kept = made-kept l (x ∷ []) (was ++ later) (length (was ++ later)) (length l) p.growth p.key (omega arith) founded

  last_stands : Stands (was ++ later) (l ++ x ∷ []) (length l) p
  last_stands =
      let longer_list = length_push l x in
      record {
        is =
            slice_get-get_or (l ++ x ∷ []) (length l) x (omega arith)
            ∙ ap (λ y. Some y) (get_or_push l x x (length l) refl)
            ∙ ap (λ e. Some (spread e p.growth)) (sym kept);
        founded =
            founded-kept l (x ∷ []) (length (was ++ later)) (length (was ++ later)) (length l) p.growth p.key (omega arith)
            (omega arith) founded;
      }

  all_stand : (n : ℕ) (q : Place) → slice_get (old ++ p ∷ []) n ≡ Some q → Stands (was ++ later) (l ++ x ∷ []) n q
  all_stand n q at =
      elim (before_or_last old p n q at) [
        | inl earlier ↦ stands-kept l (x ∷ []) was later n q longer (held.each n q earlier)
        | inr last ↦
            subst (λ (r : Place). Stands (was ++ later) (l ++ x ∷ []) n r) last.1
            (subst (λ m. Stands (was ++ later) (l ++ x ∷ []) m p) (length-shown was old ∙ sym last.0) last_stands)
      ]

  all_stand_now : (n : ℕ) (q : Place) → slice_get (old ++ p ∷ []) n ≡ Some q → Stands (was ++ later) (shown (was ++ later) (old ++ p ∷ [])) n q
  all_stand_now n q at = subst (λ k. Stands (was ++ later) k n q) (sym is) (all_stand n q at)

  old_stand : (n : ℕ) (q : Place) → slice_get old n ≡ Some q → Stands (was ++ later) l n q
  old_stand n q at =
      let stands = held.each n q at in
      subst (λ k. Stands (was ++ later) k n q) (append_nothing l) (stands-kept l [] was later n q longer stands)
    where
      append_nothing : (k : List Spread) → k ++ [] ≡ k
      append_nothing [] = refl
      append_nothing (y ∷ k) = ap (λ r. y ∷ r) (append_nothing k)

  new_spread : (m : ℕ) → slice_get l m ≡ Some x → ⊥
  new_spread m at =
      absent (one_place (was ++ later) differ l held.apart old p (length-shown was old) old_stand founded m at)

  new_place : (n : ℕ) → slice_get (old ++ p ∷ []) n ≡ Some p → Holds was (was ++ later) old (old ++ p ∷ []) inputs p n
  new_place n at =
      let longer_places = length_push old p in
      let longer_list = length_push l x in
      record {
        held = record {
          each = all_stand_now;
          apart = subst (λ k. AllPairs (λ y z. y ≢ z) k) (sym is) (all_pairs_push (λ y z. y ≢ z) l x held.apart
              (λ k d within equal. new_spread k (slice_get-get_or l k d within ∙ ap (λ y. Some y) equal)));
          differ = differ;
          tints_are = tints_are ∙ ap tints_entered (sym is);
          inputs_are =
              counted ∙ inputs_held-push old p
              ∙ ap (λ k. k + length (inputs_by p.key)) (sym held.counted ∙ held.inputs_are)
              ∙ ap (λ k. inputs_entered l + k) (ports-made (was ++ later) l p.key p.growth)
              ∙ sym (inputs_entered-push l x) ∙ ap inputs_entered (sym is);
          counted = counted;
          few = omega arith;
        };
        puts = record {
          now = is ∙ sym (put-new x l (λ there. new_spread there.0 (slice_get-get_or l there.0 x there.1 ∙ ap (λ y. Some y) there.2)));
          at = ap (λ k. slice_get k n) is ∙ (all_stand n p at).is ∙ ap (λ e. Some (spread e p.growth)) kept;
        };
        at_least = omega (arith, ap length is);
      }

pub holds :
    (was tints later : List (List Channels)) (old new : List Place) (before inputs : ℕ) (p : Place) (n : ℕ)
    → tints ≡ was ++ later → length was ≤ length tints → IsHeld was old before
    → IsFounded (length tints) (shown was old) (length (shown was old)) p.growth p.key → length old + 1 < 2 ^ 31
    → IsPut old new p n → inputs ≡ inputs_held new → AllPairs (λ s t. s ≢ t) tints → (Contains old p → tints ≡ was)
    → ((Contains old p → ⊥) → tints ≡ tints_entered (shown was old ++ shows tints (shown was old) p ∷ []))
    → Holds was tints old new inputs p n
holds was tints later old new before inputs p n grows longer held founded room put counted differ same more =
    elim put.grown [
      | inl there ↦
          let P : List (List Channels) → Type 0 = λ t. Holds was t old new inputs p n in
          let Q : List Place → Type 0 = λ places. Holds was was old places inputs p n in
          let same_count : before ≡ inputs = held.counted ∙ ap inputs_held (sym there.0) ∙ sym counted in
          let still : IsHeld was old inputs = subst (λ k. IsHeld was old k) same_count held in
          subst P (sym (same there.1)) (subst Q (sym there.0)
          (old_place was old inputs p n still (ap (λ ps. slice_get ps n) (sym there.0) ∙ put.at)))
      | inr added ↦
          let P : List (List Channels) → Type 0 =
          λ t. IsFounded (length t) (shown was old) (length (shown was old)) p.growth p.key → length was ≤ length t
          → AllPairs (λ s u. s ≢ u) t → (t ≡ tints_entered (shown was old ++ shows t (shown was old) p ∷ []))
          → Holds was t old new inputs p n in
          let Q : List Place → Type 0 = λ places. Holds was (was ++ later) old places inputs p n in
          subst P (sym grows)
          (λ founded longer differ more.
          subst Q (sym added.0)
          (new_place was later old before inputs p held founded room added.1 (counted ∙ ap inputs_held added.0) differ longer more n
          (ap (λ ps. slice_get ps n) (sym added.0) ∙ put.at)))
          founded longer differ (more added.1)
    ]
