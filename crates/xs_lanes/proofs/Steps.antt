-- The steps of loops that make the pixels of a row in order.
use Rattle.std.proofs.Common.{◌≡◌, ℕ, ◌+◌, ◌*◌, ◌≤◌, zero, suc, List, [], ◌∷◌, ◌++◌, length, take, drop, refl, sym, ap, ◌∙◌, arith}
use Rattle.std.specs.Simd.Lanes.{zip2, chunk, put_chunk}
use Rattle.std.proofs.Math.Seq.{take-add}
use Rattle.std.proofs.lemmas.List.{length-take-le, take_all}
use Rattle.std.proofs.lemmas.Simd.{take_more_put_chunk, length-put_chunk}
use Rattle.xs_pixel.specs.Channels.{Channels}
use Rattle.xs_pixel.specs.PixelRows.{pixels}
use Rattle.xs_pixel.proofs.PixelRowLemmas.{pixels-append, pixels-chunk}
use Rattle.xs_lanes.specs.Done.{Done}

-- n pixels more, written at i
pub done_more :
    (wanted : List Channels) (row results : List ℕ) (i m n : ℕ) (done : Done wanted row i) → m ≡ 4 * n
    → i + m ≤ length row → length results ≡ m → pixels results ≡ chunk done.count n wanted
    → Done wanted (put_chunk i row results) (i + m)
done_more wanted row results i m n done whole room long value =
    let before : length (take i row) ≡ 4 * done.count = length-take-le i row done.within ∙ done.whole in
    let written : pixels (take (i + m) (put_chunk i row results)) ≡ pixels (take i row) ++ pixels results =
    ap pixels (take_more_put_chunk i row results (i + m) (omega arith) room) ∙ pixels-append done.count (take i row) results before
    in
    record {
      count = done.count + n;
      whole = omega (arith, done.whole);
      within = rw (length-put_chunk i row results) room;
      so_far = written ∙ (rw (done.so_far, value) (sym (take-add done.count n wanted)));
    }

-- all is done at the end
pub done_all : (wanted : List Channels) (row : List ℕ) (i : ℕ) → length row ≡ 4 * length wanted → length row ≤ i → Done wanted row i → pixels row ≡ wanted
done_all wanted row i long all done =
    ap pixels (sym (take_all i row all)) ∙ (done.so_far ∙ take_all done.count wanted (omega (arith, done.whole)))

take-zip2 : {A B C : Type 0} (f : A → B → C) (n : ℕ) (us : List A) (vs : List B) → take n (zip2 f us vs) ≡ zip2 f (take n us) (take n vs)
take-zip2 f zero us vs = refl
take-zip2 f (suc n) [] vs = refl
take-zip2 f (suc n) (u ∷ us) [] = refl
take-zip2 f (suc n) (u ∷ us) (v ∷ vs) = ap (λ ws. f u v ∷ ws) (take-zip2 f n us vs)

drop-zip2 :
    {A B C : Type 0} (f : A → B → C) (n : ℕ) (us : List A) (vs : List B) → length us ≡ length vs
    → drop n (zip2 f us vs) ≡ zip2 f (drop n us) (drop n vs)
drop-zip2 f zero us vs same = refl
drop-zip2 f (suc n) [] vs same = refl
drop-zip2 f (suc n) (u ∷ us) [] same = absurd (omega arith)
drop-zip2 f (suc n) (u ∷ us) (v ∷ vs) same = drop-zip2 f n us vs (omega arith)

-- the results of an operation on a part of two rows are that part of its results
pub part_of_zip2 :
    (op : Channels → Channels → Channels) (i k m n : ℕ) (u d : List ℕ) → i ≡ 4 * k → m ≡ 4 * n
    → length (pixels u) ≡ length (pixels d)
    → zip2 op (pixels (chunk i m u)) (pixels (chunk i m d)) ≡ chunk k n (zip2 op (pixels u) (pixels d))
part_of_zip2 op i k m n u d at long same =
    rw (pixels-chunk i k m n u at long, pixels-chunk i k m n d at long)
    (sym (ap (take n) (drop-zip2 op k (pixels u) (pixels d) same) ∙ take-zip2 op n (drop k (pixels u)) (drop k (pixels d))))
