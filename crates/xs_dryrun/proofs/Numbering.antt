-- The numbers of aliases when a row is added
use Rattle.std.proofs.Common.{◌≡◌, ◌<◌, ◌≤◌, ◌+◌, ◌-◌, ◌*◌, ℕ, suc, Bool, true, false, if◌then◌else◌, List, [], ◌∷◌, ◌++◌, length, map, take, replicate, get_or, Result, Ok, Err, OnOk, refl, sym, ap, ap₂, ◌∙◌, subst, inl, inr, arith, append_assoc, length-append}
use Rattle.std.specs.Prelude.{nat_lt}
use Rattle.std.specs.List.{range_with_len}
use Rattle.std.proofs.lemmas.Bool.{cases_lt, ltb-false}
use Rattle.std.proofs.lemmas.List.{get_or_append_left, get_or-append_right, get_or-replicate, length-replicate, replicate-append-replicate}
use Rattle.std.proofs.lemmas.List.FromFn.{map-range_with_len_more, length-map-range_with_len, get_or-map-range_with_len}
use Rattle.xs_meaning.specs.Expressions.{Expr}
use Rattle.xs_demand.specs.Blocks.{Spread, enter, enter_rows, new_of, number_on}
use Rattle.xs_demand.specs.Limits.{root_in}
use Rattle.xs_demand.proofs.BlockNumbers.{number_of_row}
use Rattle.xs_entered.proofs.Adding.{count_adds}
use Rattle.xs_dryrun.specs.Numbers.{AreNumbers}

-- ---- one root more

pub enter_rows-push : (roots : List Expr) (e : Expr) (held : List Spread) → enter_rows (roots ++ e ∷ []) held ≡ enter e 0 (enter_rows roots held)
enter_rows-push [] e held = refl
enter_rows-push (r ∷ roots) e held = enter_rows-push roots e (enter r 0 held)

pub take_before : (roots : List Expr) (e : Expr) → take (length roots) (roots ++ e ∷ []) ≡ roots
take_before [] e = refl
take_before (r ∷ roots) e = ap (λ (l : List Expr). r ∷ l) (take_before roots e)

pub take_through : (roots : List Expr) (e : Expr) → take (suc (length roots)) (roots ++ e ∷ []) ≡ roots ++ e ∷ []
take_through [] e = refl
take_through (r ∷ roots) e = ap (λ (l : List Expr). r ∷ l) (take_through roots e)

pub root_in-push : (roots : List Expr) (e : Expr) → root_in (roots ++ e ∷ []) (length roots) ≡ e
root_in-push [] e = refl
root_in-push (r ∷ roots) e = root_in-push roots e

pub length-push : (roots : List Expr) (e : Expr) → length (roots ++ e ∷ []) ≡ suc (length roots)
length-push [] e = refl
length-push (r ∷ roots) e = ap suc (length-push roots e)

-- ---- numbers of earlier rows

by_case : (b : Bool) (x y z : ℕ) → (b ≡ false → y ≡ z) → (if b then x else y) ≡ (if b then x else z)
by_case true x y z f = refl
by_case false x y z f = f refl

pub number_kept :
    (n : ℕ) (roots : List Expr) (e : Expr) (held : List Spread) (j t : ℕ) → length held ≤ j → j < length (enter_rows roots held)
    → number_on n (roots ++ e ∷ []) held j t ≡ number_on n roots held j t
number_kept n [] e held j t behind within = absurd (omega arith)
number_kept n (r ∷ roots) e held j t behind within =
    by_case (nat_lt j (length (enter r 0 held))) (t * length (new_of r held) + (j - length held))
    (n * length (new_of r held) + number_on n (roots ++ e ∷ []) (enter r 0 held) j t)
    (n * length (new_of r held) + number_on n roots (enter r 0 held) j t)
    (λ past. ap (λ (m : ℕ). n * length (new_of r held) + m)
    (number_kept n roots e (enter r 0 held) j t (ltb-false j (length (enter r 0 held)) past) within))

-- ---- numbers of the row

pub number_new :
    (n : ℕ) (roots : List Expr) (e : Expr) (j t : ℕ) → length (enter_rows roots []) ≤ j → j < length (enter e 0 (enter_rows roots []))
    → number_on n (roots ++ e ∷ []) [] j t
    ≡ n * length (enter_rows roots []) + (t * length (new_of e (enter_rows roots [])) + (j - length (enter_rows roots [])))
number_new n roots e j t behind within =
    let all = roots ++ e ∷ [] in
    let row = length roots in
    let before : enter_rows (take row all) [] ≡ enter_rows roots [] = ap (λ (l : List Expr). enter_rows l []) (take_before roots e) in
    let next : row + 1 ≡ suc row = omega arith in
    let through : enter_rows (take (row + 1) all) [] ≡ enter e 0 (enter_rows roots []) =
    ap (λ (k : ℕ). enter_rows (take k all) []) next ∙ ap (λ (l : List Expr). enter_rows l []) (take_through roots e)
    ∙ enter_rows-push roots e [] in
    number_of_row n all row j t (omega (arith, length-push roots e))
    (omega (arith, ap length before)) (omega (arith, ap length through))
    ∙ ap₂ (λ (held : List Spread) (r : Expr). n * length held + (t * length (new_of r held) + (j - length held)))
    before (root_in-push roots e)

-- ---- one more number

pub firsts_push :
    (old : List ℕ) (first i : ℕ)
    → (old ++ map (λ k. first + k) (range_with_len 0 i)) ++ (first + i) ∷ [] ≡ old ++ map (λ k. first + k) (range_with_len 0 (i + 1))
firsts_push old first i =
    append_assoc old (map (λ (k : ℕ). first + k) (range_with_len 0 i)) ((first + i) ∷ [])
    ∙ ap (λ (l : List ℕ). old ++ l) (sym (map-range_with_len_more (λ (k : ℕ). first + k) 0 i i (omega arith)))

pub strides_push :
    (old : List ℕ) (x i : ℕ) → (old ++ replicate i x) ++ x ∷ [] ≡ old ++ replicate (i + 1) x
strides_push old x i =
    append_assoc old (replicate i x) (x ∷ []) ∙ ap (λ (l : List ℕ). old ++ l) (replicate-append-replicate i 1 x)

-- ---- one row more

-- the numbers on tile 0 and the strides of a row
abbrev pub firsts_with : ℕ → List ℕ → ℕ → List ℕ
firsts_with tiles firsts stride = firsts ++ map (λ i. tiles * length firsts + i) (range_with_len 0 stride)

abbrev pub strides_with : List ℕ → ℕ → List ℕ
strides_with strides stride = strides ++ replicate stride stride

pub one_row_more :
    (tiles : ℕ) (roots : List Expr) (e : Expr) (firsts strides : List ℕ) (stride : ℕ) → AreNumbers tiles roots firsts strides
    → length firsts + stride ≡ length (enter e 0 (enter_rows roots []))
    → AreNumbers tiles (roots ++ e ∷ []) (firsts_with tiles firsts stride) (strides_with strides stride)
one_row_more tiles roots e firsts strides stride was grown =
    let base = tiles * length firsts in
    let added : ℕ → ℕ = λ (i : ℕ). base + i in
    let more = map added (range_with_len 0 stride) in
    let all : length (enter_rows (roots ++ e ∷ []) []) ≡ length firsts + stride =
    ap length (enter_rows-push roots e []) ∙ sym grown in
    let many : length (firsts ++ more) ≡ length firsts + stride =
    length-append firsts more ∙ ap (λ (k : ℕ). length firsts + k) (length-map-range_with_len added 0 stride) in
    let long : length (strides ++ replicate stride stride) ≡ length strides + stride =
    length-append strides (replicate stride stride) ∙ ap (λ (k : ℕ). length strides + k) (length-replicate stride stride) in
    let new : length (new_of e (enter_rows roots [])) ≡ stride =
    omega (arith, count_adds e 0 (enter_rows roots []), was.firsts_many) in
    record {
      firsts_many = many ∙ sym all;
      strides_many = omega (arith, long, all, was.firsts_many, was.strides_many);
      number = λ j t within.
          elim (cases_lt j (length firsts)) [
            | inl here ↦
                ap₂ (λ (a b : ℕ). a + t * b) (get_or_append_left firsts more 0 j here)
                (get_or_append_left strides (replicate stride stride) 0 j (omega (arith, was.firsts_many, was.strides_many)))
                ∙ was.number j t here
                ∙ sym (number_kept tiles roots e [] j t (omega arith) (omega (arith, was.firsts_many)))
            | inr past ↦
                let there : j - length firsts < stride = omega (arith, many) in
                let first : get_or (firsts ++ more) j 0 ≡ base + (j - length firsts) =
                get_or-append_right firsts more (length firsts) j 0 refl past
                ∙ get_or-map-range_with_len added 0 stride (j - length firsts) (j - length firsts) 0 there (omega arith) in
                let same : length strides ≡ length firsts = was.strides_many ∙ sym was.firsts_many in
                let step : get_or (strides ++ replicate stride stride) j 0 ≡ stride =
                get_or-append_right strides (replicate stride stride) (length firsts) j 0 same past
                ∙ get_or-replicate stride (j - length firsts) stride 0 there in
                ap₂ (λ (a b : ℕ). a + t * b) first step
                ∙ omega arith
                ∙ ap₂ (λ (a b : ℕ). tiles * a + (t * b + (j - a))) was.firsts_many (sym new)
                ∙ sym (number_new tiles roots e j t (omega (arith, was.firsts_many)) (omega (arith, many, grown)))
          ];
    }

pub row_added :
    (tiles entered first stride : ℕ) (firsts strides grown longer : List ℕ) → first ≡ tiles * length firsts
    → length firsts + stride ≡ entered → grown ≡ firsts ++ map (λ k. first + k) (range_with_len 0 stride)
    → longer ≡ strides ++ replicate stride stride → (roots : List Expr) (e : Expr) → AreNumbers tiles roots firsts strides
    → entered ≡ length (enter e 0 (enter_rows roots [])) → AreNumbers tiles (roots ++ e ∷ []) grown longer
row_added tiles entered first stride firsts strides grown longer at all is_grown is_longer roots e was is =
    let more : grown ≡ firsts_with tiles firsts stride =
    is_grown ∙ ap (λ (n : ℕ). firsts ++ map (λ (k : ℕ). n + k) (range_with_len 0 stride)) at in
    subst (λ (l : List ℕ). AreNumbers tiles (roots ++ e ∷ []) l longer) (sym more)
    (subst (AreNumbers tiles (roots ++ e ∷ []) (firsts_with tiles firsts stride)) (sym is_longer)
    (one_row_more tiles roots e firsts strides stride was (all ∙ is)))

pub on_ok_both : {A E : Type 0} (r : Result A E) (P Q R : Type 0) → (P → Q → R) → OnOk r P → OnOk r Q → OnOk r R
on_ok_both (Ok x) P Q R f p q = f p q
on_ok_both (Err x) P Q R f p q = tt
