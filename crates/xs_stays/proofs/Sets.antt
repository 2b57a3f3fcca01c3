-- Flags up to the last one that is set
use Rattle.std.proofs.Common.{◌≡◌, ℕ, zero, suc, ◌+◌, ◌-◌, ◌<◌, ◌≤◌, Bool, true, false, List, [], ◌∷◌, ◌++◌, map, length, take, get_or, min, refl, sym, ap, ap₂, ◌∙◌, arith, ⊎_elim}
use Rattle.std.specs.List.{range_with_len}
use Rattle.std.proofs.Math.Path.{fun_ext}
use Rattle.std.proofs.lemmas.Bool.{cases_lt}
use Rattle.std.proofs.lemmas.List.{get_or_past}
use Rattle.std.proofs.lemmas.List.FromFn.{length-map-range_with_len, get_or-map-range_with_len}
use Rattle.xs_pixel.specs.Channels.{Channels, clear}
use Rattle.xs_palette.specs.Styles.{style_of}
use Rattle.xs_stays.specs.Sets.{styles_in, before, up_to_last}

-- ---- they are the same set

get_or-before : (b : Bool) (bs : List Bool) (i : ℕ) → get_or (before b bs) i false ≡ get_or (b ∷ bs) i false
get_or-before true [] i = refl
get_or-before false [] zero = refl
get_or-before false [] (suc i) = refl
get_or-before b (c ∷ cs) i = refl

pub get_or-up_to_last : (bs : List Bool) (i : ℕ) → get_or (up_to_last bs) i false ≡ get_or bs i false
get_or-up_to_last [] i = refl
get_or-up_to_last (b ∷ bs) zero = get_or-before b (up_to_last bs) zero
get_or-up_to_last (b ∷ bs) (suc i) = get_or-before b (up_to_last bs) (suc i) ∙ get_or-up_to_last bs i

-- ---- and one list for each set

none_set : (bs : List Bool) → ((i : ℕ) → get_or bs i false ≡ false) → up_to_last bs ≡ []
none_set [] all = refl
none_set (b ∷ bs) all = ap₂ before (all 0) (none_set bs (λ i. all (suc i)))

pub up_to_last-same :
    (bs cs : List Bool) → ((i : ℕ) → get_or bs i false ≡ get_or cs i false) → up_to_last bs ≡ up_to_last cs
up_to_last-same [] cs same = sym (none_set cs (λ i. sym (same i)))
up_to_last-same (b ∷ bs) [] same = none_set (b ∷ bs) same
up_to_last-same (b ∷ bs) (c ∷ cs) same = ap₂ before (same 0) (up_to_last-same bs cs (λ i. same (suc i)))

pub up_to_last-twice : (bs : List Bool) → up_to_last (up_to_last bs) ≡ up_to_last bs
up_to_last-twice bs = up_to_last-same (up_to_last bs) bs (get_or-up_to_last bs)

-- ---- they are no longer

length-before : (b : Bool) (bs : List Bool) → length (before b bs) ≤ suc (length bs)
length-before true [] = omega arith
length-before false [] = omega arith
length-before b (c ∷ cs) = omega arith

pub length-up_to_last : (bs : List Bool) → length (up_to_last bs) ≤ length bs
length-up_to_last [] = omega arith
length-up_to_last (b ∷ bs) = omega (arith, length-before b (up_to_last bs), length-up_to_last bs)

-- ---- flag by flag from the end

before-more : (b : Bool) (bs : List Bool) (c : Bool) → before b (bs ++ c ∷ []) ≡ b ∷ (bs ++ c ∷ [])
before-more b [] c = refl
before-more b (d ∷ ds) c = refl

pub last-unset : (bs : List Bool) → up_to_last (bs ++ false ∷ []) ≡ up_to_last bs
last-unset [] = refl
last-unset (b ∷ bs) = ap (before b) (last-unset bs)

pub last-set : (bs : List Bool) → up_to_last (bs ++ true ∷ []) ≡ bs ++ true ∷ []
last-set [] = refl
last-set (b ∷ bs) = ap (before b) (last-set bs) ∙ before-more b bs true

-- the first flags of a list, and one more
pub take-more :
    (bs : List Bool) (n : ℕ) (d : Bool) → n < length bs → take (suc n) bs ≡ take n bs ++ get_or bs n d ∷ []
take-more [] n d within = absurd (omega (arith, within))
take-more (b ∷ bs) zero d within = refl
take-more (b ∷ bs) (suc n) d within = ap (λ xs. b ∷ xs) (take-more bs n d (omega (arith, within)))

-- ---- a set that is made flag by flag

pub set-of :
    (f : ℕ → Bool) (n : ℕ) → ((i : ℕ) → n ≤ i → f i ≡ false) → styles_in (up_to_last (map f (range_with_len 0 n))) ≡ f
set-of f n past = fun_ext each
  where
    each : (i : ℕ) → get_or (up_to_last (map f (range_with_len 0 n))) i false ≡ f i
    each i =
        get_or-up_to_last (map f (range_with_len 0 n)) i
        ∙ ⊎_elim (λ lt. get_or-map-range_with_len f 0 n i i false lt (omega arith))
        (λ le.
        get_or_past (map f (range_with_len 0 n)) i false (omega (arith, length-map-range_with_len f 0 n))
        ∙ sym (past i le))
        (cases_lt i n)

-- ---- how many flags there are up to the last that is set

take-one :
    (bs : List Bool) (len : ℕ) (b d : Bool) → 0 < len → len ≤ length bs → get_or bs (len - 1) d ≡ b
    → take len bs ≡ take (len - 1) bs ++ b ∷ []
take-one bs len b d some within is =
    ap (λ n. take n bs) (let back : len ≡ suc (len - 1) = omega (arith, some) in back)
    ∙ take-more bs (len - 1) d (omega (arith, some, within))
    ∙ ap (λ x. take (len - 1) bs ++ x ∷ []) is

pub shown-set :
    (bs : List Bool) (len : ℕ) (d : Bool) → 0 < len → len ≤ length bs → get_or bs (len - 1) d ≡ true
    → up_to_last (take len bs) ≡ up_to_last bs → take len bs ≡ up_to_last bs
shown-set bs len d some within is kept =
    let one = take-one bs len true d some within is in
    one ∙ sym (last-set (take (len - 1) bs)) ∙ ap up_to_last (sym one) ∙ kept

pub shown-unset :
    (bs : List Bool) (len : ℕ) (d : Bool) → 0 < len → len ≤ length bs → get_or bs (len - 1) d ≡ false
    → up_to_last (take len bs) ≡ up_to_last bs → up_to_last (take (len - 1) bs) ≡ up_to_last bs
shown-unset bs len d some within is kept =
    sym (last-unset (take (len - 1) bs)) ∙ ap up_to_last (sym (take-one bs len false d some within is)) ∙ kept

-- ---- the pixels of a palette past its last

style_of-past : (ps : List Channels) (i : ℕ) → length ps ≤ i → style_of ps i ≡ clear
style_of-past ps zero le = refl
style_of-past ps (suc i) le = get_or_past ps (suc i) clear le

pub clear-past :
    (ps : List Channels) → 0 < length ps
    → ((id : ℕ) → get_or ps (min id (length ps - 1)) clear ≡ style_of ps id)
    → (i : ℕ) → length ps - 1 ≤ i → style_of ps i ≡ clear
clear-past ps some look_up i le =
    let last : min i (length ps - 1) ≡ min (length ps) (length ps - 1) = omega (arith, some, le) in
    sym (look_up i) ∙ ap (λ k. get_or ps k clear) last ∙ look_up (length ps) ∙ style_of-past ps (length ps) (omega arith)
