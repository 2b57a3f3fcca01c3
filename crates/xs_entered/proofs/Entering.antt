-- What holds after an expression was entered
use Rattle.std.proofs.Common.{◌≡◌, ◌≢◌, ◌<◌, ◌≤◌, ◌+◌, ◌^◌, ℕ, ℤ, List, [], ◌∷◌, ◌++◌, Some, Result, Ok, Err, IfOk, OnErr, AllPairs, Contains, length, fold, slice_get, get_or, refl, sym, ap, ◌∙◌, subst, inl, inr, arith}
use Rattle.std.specs.List.{list_any, filter_map}
use Rattle.std.proofs.lemmas.Bool.{cases_lt, cond-true, cond-false, false_from_ne_true}
use Rattle.std.proofs.lemmas.List.{length_push, append-nil, get_or_push}
use Rattle.std.proofs.lemmas.Option.{slice_get_within, slice_get-get_or, get_or_from_slice_get}
use Rattle.xs_pixel.specs.Channels.{Channels}
use Rattle.xs_pixel.specs.Points.{point}
use Rattle.xs_meaning.specs.Expressions.{Tinted}
use Rattle.xs_meaning.specs.Palettes.{same_pixels}
use Rattle.xs_demand.specs.Blocks.{Spread, spread, Puts}
use Rattle.xs_demand.specs.Shown.{tint_in, with_tint}
use Rattle.xs_demand.proofs.SameLemmas.{Decides-same_pixels_in}
use Rattle.xs_demand.proofs.PlaceLemmas.{same_place, contained, place_of, place-append}
use Rattle.xs_alias.specs.declared.key.Key.{Key}
use Rattle.xs_alias.specs.declared.key.Key.TheVariants as key
use Rattle.xs_entered.specs.declared.place.Place.{Place}
use Rattle.xs_entered.specs.Entered.{tints_entered}
use Rattle.xs_entered.specs.Places.{made, shows, shown, IsFounded, inputs_held, IsHeld, IsPut}
use Rattle.xs_entered.proofs.Putting.{Holds, holds, tints_entered-push}

-- ---- results

pub IfOk-map : {A E : Type 0} (r : Result A E) (P Q : A → Type 0) → ((n : A) → P n → Q n) → IfOk r P → IfOk r Q
IfOk-map (Ok n) P Q f ok = f n ok
IfOk-map (Err e) P Q f ok = tt

pub in_either :
    {A E R : Type 0} (r : Result A E) (P : A → Type 0) (Q : Type 0) → ((n : A) → P n → R) → (Q → R) → IfOk r P → OnErr r Q → R
in_either (Ok n) P Q f g ok err = f n ok
in_either (Err e) P Q f g ok err = g err

-- ---- an expression entered

abbrev pub place : Key → ℕ → Place
place key growth = record { key = key; growth = growth }

-- places and tints hold a list with x put last
pub record Gives (now : List Spread) (tints : List (List Channels)) (new : List Place) (inputs : ℕ) (x : Spread) (n : ℕ) : Type 0 where
  pub held : IsHeld tints new inputs
  pub puts : Puts now (shown tints new) x n
  pub within : n < length (shown tints new)
  pub at_least : length now ≤ length (shown tints new)

gives :
    (was tints : List (List Channels)) (old new : List Place) (inputs n : ℕ) (p : Place) (now : List Spread) (x : Spread)
    → shown was old ≡ now → shows tints (shown was old) p ≡ x → Holds was tints old new inputs p n
    → Gives now tints new inputs x n
gives was tints old new inputs n p now x seen is done =
    let P : Spread → Type 0 = λ y. Puts (shown was old) (shown tints new) y n in
    let Q : List Spread → Type 0 = λ l. Puts l (shown tints new) x n in
    record {
      held = done.held;
      puts = subst Q seen (subst P is done.puts);
      within = slice_get_within (shown tints new) n _ done.puts.at;
      at_least = omega (arith, ap length seen, done.at_least);
    }

-- nothing was put
pub unchanged :
    (tints : List (List Channels)) (old new : List Place) (before inputs : ℕ) → IsHeld tints old before → new ≡ old
    → inputs ≡ inputs_held new → IsHeld tints new inputs
unchanged tints old new before inputs held same counted =
    let P : List Place → Type 0 = λ places. IsHeld tints places inputs in
    let count : before ≡ inputs = held.counted ∙ ap inputs_held (sym same) ∙ sym counted in
    subst P (sym same) (subst (λ k. IsHeld tints old k) count held)

-- ---- without a tint

founded_any : (count : ℕ) (l : List Spread) (n g : ℕ) (k : Key) → IsFounded 0 l n g k → IsFounded count l n g k
founded_any count l n g key.Clear founded = tt
founded_any count l n g (key.Leaf d x y) founded = tt
founded_any count l n g (key.Tinted d x y tint) founded = absurd (omega (arith, founded))
founded_any count l n g (key.Card p) founded = tt
founded_any count l n g (key.Pair op a b) founded = founded
founded_any count l n g (key.Blur a r) founded = founded

made-untinted :
    (tints : List (List Channels)) (l : List Spread) (n g : ℕ) (k : Key) → IsFounded 0 l n g k → made tints l k ≡ made [] l k
made-untinted tints l n g key.Clear founded = refl
made-untinted tints l n g (key.Leaf d x y) founded = refl
made-untinted tints l n g (key.Tinted d x y tint) founded = absurd (omega (arith, founded))
made-untinted tints l n g (key.Card p) founded = refl
made-untinted tints l n g (key.Pair op a b) founded = refl
made-untinted tints l n g (key.Blur a r) founded = refl

no_tint :
    (tints all : List (List Channels)) (l : List Spread) (n g : ℕ) (k : Key) → IsFounded 0 l n g k
    → fold with_tint all (filter_map tint_in (made tints l k ∷ [])) ≡ all
no_tint tints all l n g key.Clear founded = refl
no_tint tints all l n g (key.Leaf d x y) founded = refl
no_tint tints all l n g (key.Tinted d x y tint) founded = absurd (omega (arith, founded))
no_tint tints all l n g (key.Card p) founded = refl
no_tint tints all l n g (key.Pair op a b) founded = refl
no_tint tints all l n g (key.Blur a r) founded = refl

pub untinted :
    (tints : List (List Channels)) (old new : List Place) (before inputs : ℕ) (k : Key) (g n : ℕ) (now : List Spread)
    → shown tints old ≡ now → IsHeld tints old before → IsFounded 0 now (length now) g k → length old + 1 < 2 ^ 31
    → IsPut old new (place k g) n → inputs ≡ inputs_held new → Gives now tints new inputs (spread (made [] now k) g) n
untinted tints old new before inputs k g n now seen held founded room put counted =
    let l = shown tints old in
    let here : IsFounded 0 l (length l) g k = subst (λ v. IsFounded 0 v (length v) g k) (sym seen) founded in
    gives tints tints old new inputs n (place k g) now (spread (made [] now k) g) seen
    (ap (λ e. spread e g) (made-untinted tints l (length l) g k here) ∙ ap (λ v. spread (made [] v k) g) seen)
    (holds tints tints [] old new before inputs (place k g) n (sym (append-nil tints)) (omega arith) held
    (founded_any (length tints) l (length l) g k here) room put counted held.differ (λ there. refl)
    (λ absent.
    held.tints_are
    ∙ sym (tints_entered-push l (shows tints l (place k g)) ∙ no_tint tints (tints_entered l) l (length l) g k here)))

-- ---- with a tint

last_at : {X : Type 0} (xs : List X) (x : X) → slice_get (xs ++ x ∷ []) (length xs) ≡ Some x
last_at xs x =
    let longer = length_push xs x in
    slice_get-get_or (xs ++ x ∷ []) (length xs) x (omega arith) ∙ ap (λ y. Some y) (get_or_push xs x x (length xs) refl)

with_known : (all : List (List Channels)) (tint : List Channels) → Contains all tint → with_tint all tint ≡ all
with_known all tint there =
    cond-true (list_any (same_pixels tint) all) all (all ++ tint ∷ []) ((Decides-same_pixels_in all tint).1 there)

with_next : (all : List (List Channels)) (tint : List Channels) → (Contains all tint → ⊥) → with_tint all tint ≡ all ++ tint ∷ []
with_next all tint absent =
    cond-false (list_any (same_pixels tint) all) all (all ++ tint ∷ [])
    (false_from_ne_true (list_any (same_pixels tint) all) (λ found. absent ((Decides-same_pixels_in all tint).0 found)))

not_yet :
    (all : List (List Channels)) (tint : List Channels) → AllPairs (λ s t. s ≢ t) (all ++ tint ∷ []) → Contains all tint → ⊥
not_yet all tint differ there =
    let at = place_of all tint there in
    let same = same_place (all ++ tint ∷ []) differ at.0 (length all) tint (place-append all (tint ∷ []) at.0 tint at.2) (last_at all tint) in
    omega (arith, at.1)

-- a tint that was given its number is the next of those that were entered, or one of them
pub record IsNumbered (was tints : List (List Channels)) (tint : List Channels) (t : ℕ) : Type 0 where
  pub later : List (List Channels)
  pub grows : tints ≡ was ++ later
  pub longer : length was ≤ length tints
  pub taken : with_tint was tint ≡ tints

numbered :
    (was tints : List (List Channels)) (tint : List Channels) (t : ℕ) → slice_get tints t ≡ Some tint
    → (t < length was → tints ≡ was) → (length was ≤ t → tints ≡ was ++ tint ∷ []) → AllPairs (λ s u. s ≢ u) tints
    → IsNumbered was tints tint t
numbered was tints tint t at known next differ =
    elim (cases_lt t (length was)) [
      | inl less ↦
          let same = known less in
          record {
            later = [];
            grows = same ∙ sym (append-nil was);
            longer = omega (arith, ap length same);
            taken = with_known was tint (contained was t tint (ap (λ l. slice_get l t) (sym same) ∙ at)) ∙ sym same;
          }
      | inr more ↦
          let grown = next more in
          record {
            later = tint ∷ [];
            grows = grown;
            longer = omega (arith, ap length grown, length_push was tint);
            taken = with_next was tint (not_yet was tint (subst (λ l. AllPairs (λ s u. s ≢ u) l) grown differ)) ∙ sym grown;
          }
    ]

pub tinted :
    (was tints : List (List Channels)) (old new : List Place) (before inputs d : ℕ) (dx dy : ℤ) (t g n : ℕ)
    (tint : List Channels) (now : List Spread) → shown was old ≡ now → IsHeld was old before
    → slice_get tints t ≡ Some tint → (t < length was → tints ≡ was) → (length was ≤ t → tints ≡ was ++ tint ∷ [])
    → AllPairs (λ s u. s ≢ u) tints → length old + 1 < 2 ^ 31 → IsPut old new (place (key.Tinted d dx dy t) g) n
    → inputs ≡ inputs_held new → Gives now tints new inputs (spread (Tinted d (point dx dy) tint) g) n
tinted was tints old new before inputs d dx dy t g n tint now seen held at known next differ room put counted =
    let l = shown was old in
    let p = place (key.Tinted d dx dy t) g in
    let x : Spread = shows tints l p in
    let number = numbered was tints tint t at known next differ in
    let is : get_or tints t [] ≡ tint = get_or_from_slice_get tints t tint [] at in
    gives was tints old new inputs n p now (spread (Tinted d (point dx dy) tint) g) seen
    (ap (λ s. spread (Tinted d (point dx dy) s) g) is)
    (holds was tints number.later old new before inputs p n number.grows number.longer held
    (slice_get_within tints t tint at) room put counted differ
    (λ there. let old_at = place_of old p there in known (held.each old_at.0 p old_at.2).founded)
    (λ absent.
    sym (tints_entered-push l x ∙ ap (with_tint (tints_entered l)) is ∙ ap (λ all. with_tint all tint) (sym held.tints_are)
    ∙ number.taken)))
