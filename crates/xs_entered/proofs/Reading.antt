-- What is read of places that hold a list
use Rattle.std.proofs.Common.{◌≡◌, ◌<◌, ◌≤◌, ◌+◌, zero, suc, ℕ, Option, Some, None, List, [], ◌∷◌, Contains, length, slice_get, get_or, refl, sym, ap, ◌∙◌, subst, inl, inr, arith}
use Rattle.std.proofs.lemmas.Option.{slice_get-get_or, get_or_from_slice_get}
use Rattle.xs_pixel.specs.Channels.{Channels}
use Rattle.xs_meaning.specs.Expressions.{Expr, Clear}
use Rattle.xs_demand.specs.Blocks.{Spread, spread, inputs_under, IsClosed}
use Rattle.xs_demand.specs.Shown.{ShowsJob}
use Rattle.xs_demand.proofs.PlaceLemmas.{contained, place_of, none_in_nil, head_or_tail, only}
use Rattle.xs_alias.specs.declared.key.Key.{Key}
use Rattle.xs_alias.specs.declared.key.Key.TheVariants as key
use Rattle.xs_entered.specs.declared.place.Place.{Place}
use Rattle.xs_entered.specs.Entered.{spread_at, tints_entered, IsInputAt}
use Rattle.xs_entered.specs.Places.{made, shows, shown, IsInput, IsFounded, Stands, inputs_by, job_by, IsHeld}
use Rattle.xs_entered.proofs.ShownPlaces.{length-shown}

-- ---- the spread of a place

pub shown_at :
    (tints : List (List Channels)) (l : List Spread) (n : ℕ) (p : Place) → Stands tints l n p → spread_at l n ≡ shows tints l p
shown_at tints l n p stands = get_or_from_slice_get l n (shows tints l p) (spread Clear 0) stands.is

-- a number of what was entered is that of a place
pub within_places :
    (tints : List (List Channels)) (places read : List Place) (n : ℕ) (now : List Spread) → shown tints places ≡ now
    → read ≡ places → n < length now → n < length read
within_places tints places read n now seen same here =
    omega (arith, length-shown tints places, ap length seen, ap length same)

pub place_read :
    (places read : List Place) (n : ℕ) (p : Place) → read ≡ places → n < length read
    → slice_get places n ≡ Some (get_or read n p)
place_read places read n p same here = ap (λ l. slice_get l n) (sym same) ∙ slice_get-get_or read n p here

-- ---- jobs

job_shown :
    (tints : List (List Channels)) (l : List Spread) (n g : ℕ) (k : Key) → IsFounded (length tints) l n g k
    → ShowsJob tints (made tints l k) (job_by k)
job_shown tints l n g key.Clear founded = refl
job_shown tints l n g (key.Leaf d x y) founded = refl
job_shown tints l n g (key.Tinted d x y t) founded = (t, refl, slice_get-get_or tints t [] founded)
job_shown tints l n g (key.Card p) founded = refl
job_shown tints l n g (key.Pair op a b) founded = refl
job_shown tints l n g (key.Blur a r) founded = refl

pub shows_job :
    (tints : List (List Channels)) (places : List Place) (inputs n : ℕ) (p : Place) (now : List Spread)
    → shown tints places ≡ now → IsHeld tints places inputs → slice_get places n ≡ Some p
    → ShowsJob (tints_entered now) (spread_at now n).expr (job_by p.key)
shows_job tints places inputs n p now seen held at =
    let l = shown tints places in
    let stands = held.each n p at in
    let P : List (List Channels) → Type 0 = λ all. ShowsJob all (made tints l p.key) (job_by p.key) in
    let Q : Expr → Type 0 = λ e. ShowsJob (tints_entered l) e (job_by p.key) in
    let R : List Spread → Type 0 = λ v. ShowsJob (tints_entered v) (spread_at v n).expr (job_by p.key) in
    subst R seen
    (subst Q (sym (ap (λ (x : Spread). x.expr) (shown_at tints l n p stands)))
    (subst P held.tints_are (job_shown tints l n p.growth p.key stands.founded)))

pub shows_growth :
    (tints : List (List Channels)) (places : List Place) (inputs n : ℕ) (p : Place) (now : List Spread)
    → shown tints places ≡ now → IsHeld tints places inputs → slice_get places n ≡ Some p
    → p.growth ≡ (spread_at now n).growth
shows_growth tints places inputs n p now seen held at =
    sym (ap (λ (x : Spread). x.growth) (shown_at tints (shown tints places) n p (held.each n p at)))
    ∙ ap (λ v. (spread_at v n).growth) seen

-- ---- inputs

-- the number of an input of a spread that has the number n
abbrev InputOf : List Spread → ℕ → Spread → ℕ → Option ℕ → Type 0
InputOf l n x port None = length (inputs_under x.expr x.growth) ≤ port
InputOf l n x port (Some j) = (j < n) × (slice_get (inputs_under x.expr x.growth) port ≡ Some (spread_at l j))

input_at : (l : List Spread) (n port : ℕ) (found : Option ℕ) → InputOf l n (spread_at l n) port found → IsInputAt l n port found
input_at l n port None is = is
input_at l n port (Some j) is = is

input_is :
    (l : List Spread) (n g a : ℕ) → IsInput l n g a → Some (spread (spread_at l a).expr g) ≡ Some (spread_at l a)
input_is l n g a input = ap (λ h. Some (spread (spread_at l a).expr h)) (sym input.1)

input_shown :
    (tints : List (List Channels)) (l : List Spread) (n g : ℕ) (k : Key) (port : ℕ) → IsFounded (length tints) l n g k
    → InputOf l n (spread (made tints l k) g) port (slice_get (inputs_by k) port)
input_shown tints l n g key.Clear port founded = omega arith
input_shown tints l n g (key.Leaf d x y) port founded = omega arith
input_shown tints l n g (key.Tinted d x y t) port founded = omega arith
input_shown tints l n g (key.Card p) port founded = omega arith
input_shown tints l n g (key.Pair op a b) zero founded = (founded.0.0, input_is l n g a founded.0)
input_shown tints l n g (key.Pair op a b) (suc zero) founded = (founded.1.0, input_is l n g b founded.1)
input_shown tints l n g (key.Pair op a b) (suc (suc port)) founded = omega arith
input_shown tints l n g (key.Blur a r) zero founded = (founded.0, input_is l n (g + r) a founded)
input_shown tints l n g (key.Blur a r) (suc port) founded = omega arith

pub shows_input :
    (tints : List (List Channels)) (places : List Place) (inputs n : ℕ) (p : Place) (now : List Spread) (port : ℕ)
    → shown tints places ≡ now → IsHeld tints places inputs → slice_get places n ≡ Some p
    → IsInputAt now n port (slice_get (inputs_by p.key) port)
shows_input tints places inputs n p now port seen held at =
    let l = shown tints places in
    let stands = held.each n p at in
    let P : Spread → Type 0 = λ x. InputOf l n x port (slice_get (inputs_by p.key) port) in
    let Q : List Spread → Type 0 = λ v. IsInputAt v n port (slice_get (inputs_by p.key) port) in
    subst Q seen
    (input_at l n port (slice_get (inputs_by p.key) port)
    (subst P (sym (shown_at tints l n p stands)) (input_shown tints l n p.growth p.key port stands.founded)))

-- ---- closed lists

place_there : (places : List Place) (n : ℕ) → n < length places → (p : Place) × (slice_get places n ≡ Some p)
place_there [] n here = absurd (omega arith)
place_there (p ∷ places) zero here = (p, refl)
place_there (p ∷ places) (suc n) here = place_there places n (omega arith)

input_held :
    (l : List Spread) (n g a : ℕ) (input : Spread) → n ≤ length l → IsInput l n g a
    → spread (spread_at l a).expr g ≡ input → Contains l input
input_held l n g a input within founded is =
    contained l a input
    (slice_get-get_or l a (spread Clear 0) (omega (arith, founded.0)) ∙ sym (input_is l n g a founded)
    ∙ ap (λ x. Some x) is)

inputs_held :
    (tints : List (List Channels)) (l : List Spread) (n g : ℕ) (k : Key) (input : Spread) → n ≤ length l
    → IsFounded (length tints) l n g k → Contains (inputs_under (made tints l k) g) input → Contains l input
inputs_held tints l n g key.Clear input within founded of = none_in_nil input of
inputs_held tints l n g (key.Leaf d x y) input within founded of = none_in_nil input of
inputs_held tints l n g (key.Tinted d x y t) input within founded of = none_in_nil input of
inputs_held tints l n g (key.Card p) input within founded of = none_in_nil input of
inputs_held tints l n g (key.Pair op a b) input within founded of =
    elim (head_or_tail (spread (spread_at l a).expr g) (spread (spread_at l b).expr g ∷ []) input of) [
      | inl is ↦ input_held l n g a input within founded.0 is
      | inr last ↦ input_held l n g b input within founded.1 (only _ input last)
    ]
inputs_held tints l n g (key.Blur a r) input within founded of =
    input_held l n (g + r) a input within founded (only _ input of)

pub held_closed :
    (tints : List (List Channels)) (places : List Place) (inputs : ℕ) → IsHeld tints places inputs → IsClosed (shown tints places)
held_closed tints places inputs held x input there of =
    let l = shown tints places in
    let at = place_of l x there in
    let long = length-shown tints places in
    let p = place_there places at.0 (omega (arith, at.1)) in
    let stands = held.each at.0 p.0 p.1 in
    let same : Some (shows tints l p.0) ≡ Some x = sym stands.is ∙ at.2 in
    let equal : x ≡ shows tints l p.0 = cc in
    inputs_held tints l at.0 p.0.growth p.0.key input (omega (arith, at.1)) stands.founded
    (subst (λ (y : Spread). Contains (inputs_under y.expr y.growth) input) equal of)
