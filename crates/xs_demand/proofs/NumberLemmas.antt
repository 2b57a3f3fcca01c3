-- The numbers of aliases and tints are their places
use Rattle.std.proofs.Common.{◌≡◌, ◌≢◌, ◌<◌, ◌+◌, ◌==◌, ℕ, Bool, true, false, if◌then◌else◌, Option, Some, None, List, [], ◌∷◌, ◌++◌, AllPairs, Contains, Decides, length, map, filter_map, fold, count_by, slice_get, get_or, refl, sym, ap, ap₂, ◌∙◌, subst, inl, inr, cond, arith}
use Rattle.std.specs.List.{position_or_len, AllZip, list_any, cons_option}
use Rattle.std.proofs.lemmas.Bool.{false_from_ne_true, false≢true}
use Rattle.std.proofs.lemmas.Bool.Decides.{same_from_decides, Decides-eqb, Decides-like}
use Rattle.std.proofs.lemmas.List.Elements.{Contains-append_left, Contains-push, Contains-get_or}
use Rattle.std.proofs.lemmas.List.Quantifiers.{all_pairs_push}
use Rattle.std.proofs.lemmas.List.Sums.{position_or_len_is, sum_by-cons}
use Rattle.std.proofs.lemmas.Option.{slice_get_within, get_or_from_slice_get, same_Some}
use Rattle.xs_pixel.specs.Channels.{Channels}
use Rattle.xs_meaning.specs.Palettes.{same_pixels}
use Rattle.xs_demand.specs.Aliases.{Alias, same_alias}
use Rattle.xs_demand.specs.Shown.{tint_in, with_tint, tints_of, number_in, tint_number, StandsAt}
use Rattle.xs_demand.proofs.SameLemmas.{Decides-same_alias, Decides-same_pixels, Decides-same_pixels_in}
use Rattle.xs_demand.proofs.PlaceLemmas.{place_of, same_place, head_or_tail, Contains-head, Contains-tail, Contains-map, none_in_nil}
use Rattle.xs_demand.proofs.VisitLemmas.{StandApart}

-- ---- the first place of an element that stands once

place_is_first :
    {A : Type 0} (same : A → A → Bool) → ((x y : A) → Decides (same x y) (x ≡ y))
    → (l : List A) → AllPairs (λ x y. x ≢ y) l → (x : A) (k : ℕ) → slice_get l k ≡ Some x → position_or_len (same x) l ≡ k
place_is_first same each l apart x k at =
    let below : k < length l = slice_get_within l k x at in
    let is : get_or l k x ≡ x = get_or_from_slice_get l k x x at in
    position_or_len_is (same x) l k x (omega arith)
    (λ j before. false_from_ne_true (same x (get_or l j x))
    (λ test. apart j k x before below (sym ((each x (get_or l j x)).0 test) ∙ sym is)))
    (λ within. (each x (get_or l k x)).1 (sym is))

first_place :
    {A : Type 0} (same : A → A → Bool) → ((x y : A) → Decides (same x y) (x ≡ y))
    → (l : List A) → AllPairs (λ x y. x ≢ y) l → (x : A) → Contains l x → slice_get l (position_or_len (same x) l) ≡ Some x
first_place same each l apart x there =
    let place = place_of l x there in
    subst (λ k. slice_get l k ≡ Some x) (sym (place_is_first same each l apart x place.0 place.2)) place.2

pub number_is : (l : List Alias) → StandApart l → (x : Alias) (k : ℕ) → StandsAt l x k → k ≡ number_in l x
number_is l apart x k at = sym (place_is_first same_alias Decides-same_alias l apart x k at)

pub stands_at_number : (l : List Alias) → StandApart l → (x : Alias) → Contains l x → StandsAt l x (number_in l x)
stands_at_number = first_place same_alias Decides-same_alias

-- ---- tints

abbrev pub TintsApart : List (List Channels) → Type 0
TintsApart tints = AllPairs (λ s t. s ≢ t) tints

pub tint_number_is :
    (tints : List (List Channels)) → TintsApart tints → (tint : List Channels) (k : ℕ) → slice_get tints k ≡ Some tint
    → k ≡ tint_number tints tint
tint_number_is tints apart tint k at = sym (place_is_first same_pixels Decides-same_pixels tints apart tint k at)

pub tint_at_number :
    (tints : List (List Channels)) → TintsApart tints → (tint : List Channels) → Contains tints tint
    → slice_get tints (tint_number tints tint) ≡ Some tint
tint_at_number = first_place same_pixels Decides-same_pixels

-- a list with a tint has its tints apart, and the old ones and the tint
record HasMore (tints more : List (List Channels)) (tint : List Channels) : Type 0 where
  pub apart : TintsApart tints → TintsApart more
  pub kept : (t : List Channels) → Contains tints t → Contains more t
  pub there : Contains more tint

has_more :
    (b : Bool) (tints : List (List Channels)) (tint : List Channels) → list_any (same_pixels tint) tints ≡ b
    → HasMore tints (if b then tints else (tints ++ tint ∷ [])) tint
has_more true tints tint found =
    record { apart = λ apart. apart; kept = λ t there. there; there = (Decides-same_pixels_in tints tint).0 found }
has_more false tints tint none =
    record {
      apart =
          λ apart. all_pairs_push (λ s t. s ≢ t) tints tint apart
          (λ k d below same.
          false≢true (sym none ∙ (Decides-same_pixels_in tints tint).1 (subst (Contains tints) same (Contains-get_or tints k d below))));
      kept = λ t there. Contains-append_left tints (tint ∷ []) t there;
      there = Contains-push tints tint;
    }

with_more : (tints : List (List Channels)) (tint : List Channels) → HasMore tints (with_tint tints tint) tint
with_more tints tint = has_more (list_any (same_pixels tint) tints) tints tint refl

fold-apart : (tints more : List (List Channels)) → TintsApart tints → TintsApart (fold with_tint tints more)
fold-apart tints [] apart = apart
fold-apart tints (tint ∷ more) apart = fold-apart (with_tint tints tint) more ((with_more tints tint).apart apart)

fold-kept :
    (tints more : List (List Channels)) (t : List Channels) → Contains tints t → Contains (fold with_tint tints more) t
fold-kept tints [] t there = there
fold-kept tints (tint ∷ more) t there = fold-kept (with_tint tints tint) more t ((with_more tints tint).kept t there)

fold-there :
    (tints more : List (List Channels)) (t : List Channels) → Contains more t → Contains (fold with_tint tints more) t
fold-there tints [] t there = none_in_nil t there
fold-there tints (tint ∷ more) t there =
    elim (head_or_tail tint more t there) [
      | inl first ↦
          subst (Contains (fold with_tint (with_tint tints tint) more)) first
          (fold-kept (with_tint tints tint) more tint (with_more tints tint).there)
      | inr last ↦ fold-there (with_tint tints tint) more t last
    ]

pub tints_apart : (l : List Alias) → TintsApart (tints_of l)
tints_apart l = fold-apart [] (filter_map tint_in (map (λ (x : Alias). x.expr) l)) (λ j k d less below. absurd (omega arith))

Contains-cons_option : {Y : Type 0} (o : Option Y) (ys : List Y) (y : Y) → Contains ys y → Contains (cons_option o ys) y
Contains-cons_option None ys y there = there
Contains-cons_option (Some z) ys y there = Contains-tail z ys y there

-- a chosen element is among those that are chosen
Contains-filter_map :
    {X Y : Type 0} (f : X → Option Y) (xs : List X) (x : X) (y : Y) → Contains xs x → f x ≡ Some y → Contains (filter_map f xs) y
Contains-filter_map f [] x y there is = none_in_nil x there
Contains-filter_map f (z ∷ xs) x y there is =
    elim (head_or_tail z xs x there) [
      | inl first ↦
          subst (λ o. Contains (cons_option o (filter_map f xs)) y) (sym (ap f first ∙ is)) (Contains-head y (filter_map f xs))
      | inr last ↦ Contains-cons_option (f z) (filter_map f xs) y (Contains-filter_map f xs x y last is)
    ]

pub tint_there : (l : List Alias) (x : Alias) (tint : List Channels) → Contains l x → tint_in x.expr ≡ Some tint → Contains (tints_of l) tint
tint_there l x tint there is =
    fold-there [] (filter_map tint_in (map (λ (y : Alias). y.expr) l)) tint
    (Contains-filter_map tint_in (map (λ (y : Alias). y.expr) l) x.expr tint (Contains-map (λ (y : Alias). y.expr) l x there) is)

-- ---- lists by their places

abbrev pub uses_in : List Alias → Alias → ℕ
uses_in xs x = count_by (same_alias x) xs

-- the places of some aliases of a list are their numbers
pub places_are_numbers :
    (l : List Alias) → StandApart l → (xs : List Alias) (ks : List ℕ) → AllZip (StandsAt l) xs ks → ks ≡ map (number_in l) xs
places_are_numbers l apart [] [] places = refl
places_are_numbers l apart [] (k ∷ ks) places = absurd places
places_are_numbers l apart (x ∷ xs) [] places = absurd places
places_are_numbers l apart (x ∷ xs) (k ∷ ks) places =
    ap₂ (λ y ys. y ∷ ys) (number_is l apart x k places.0) (places_are_numbers l apart xs ks places.1)

-- and their numbers are places
pub numbers_are_places :
    (l : List Alias) → StandApart l → (xs : List Alias) → ((x : Alias) → Contains xs x → Contains l x)
    → AllZip (StandsAt l) xs (map (number_in l) xs)
numbers_are_places l apart [] there = tt
numbers_are_places l apart (x ∷ xs) there = (
  stands_at_number l apart x (there x (Contains-head x xs)),
  numbers_are_places l apart xs (λ y among. there y (Contains-tail x xs y among)),
)

-- an alias is told by its place
same_by_place :
    (l : List Alias) → StandApart l → (x y : Alias) (j k : ℕ) → StandsAt l x k → StandsAt l y j → (j == k) ≡ same_alias x y
same_by_place l apart x y j k here there =
    same_from_decides (j == k) (same_alias x y)
    (Decides-like (j == k) (λ same. same_Some x y (sym here ∙ ap (slice_get l) (sym same) ∙ there))
    (λ same. same_place l apart j k y there (subst (λ z. StandsAt l z k) same here)) (Decides-eqb j k))
    (Decides-same_alias x y)

-- a place is among some as often as its alias
pub count-places :
    (l : List Alias) → StandApart l → (x : Alias) (k : ℕ) → StandsAt l x k → (xs : List Alias) (ks : List ℕ)
    → AllZip (StandsAt l) xs ks → count_by (λ j. j == k) ks ≡ uses_in xs x
count-places l apart x k at [] [] places = refl
count-places l apart x k at [] (j ∷ ks) places = absurd places
count-places l apart x k at (y ∷ xs) [] places = absurd places
count-places l apart x k at (y ∷ xs) (j ∷ ks) places =
    sum_by-cons (λ j. cond (j == k) 1 0) j ks
    ∙ ap₂ (λ b n. cond b 1 0 + n) (same_by_place l apart x y j k at places.0) (count-places l apart x k at xs ks places.1)
    ∙ sym (sum_by-cons (λ y. cond (same_alias x y) 1 0) y xs)
