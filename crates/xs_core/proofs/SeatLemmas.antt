-- What a seat may do after its calls
use Rattle.std.proofs.Common.{inl, inr, ◌≡◌, ◌<◌, ◌≤◌, ◌+◌, ℕ, zero, suc, Bool, true, false, ◌==◌, cond, Option, List, [], ◌∷◌, ◌++◌, refl, sym, ap, ap₂, subst, ◌∙◌, arith}
use Rattle.std.proofs.lemmas.List.Sums.{sum_by_push}
use Rattle.std.proofs.lemmas.Bool.{eq-eqb}
use Rattle.xs_pixel.specs.Picture.{Pictures}
use Rattle.xs_plan.specs.Record.{PlanRecord}
use Rattle.xs_plan.specs.declared.job.Reader.{Reader}
use Rattle.xs_plan.specs.declared.job.Reader.TheVariants.{Port, Root}
use Rattle.xs_core.specs.declared.answer.Claim.TheVariants as claim
use Rattle.xs_core.specs.declared.answer.Reading.{Reading}
use Rattle.xs_core.specs.declared.answer.Reading.TheVariants as reading
use Rattle.xs_core.specs.States.{source_at, reader_at}
use Rattle.xs_core.specs.Views.{DeskOk, DeskView, Signed, signed, entries, under, HasClaimed, Mine, IsMine, MayRead}
use Rattle.xs_core.specs.Calls.{Adds, Stays, ClaimTells, ReadingTells}

same : {A : Type 0} (xs : List A) → xs ++ [] ≡ xs
same [] = refl
same (x ∷ xs) = ap (λ l. x ∷ l) (same xs)

-- what it won it has claimed
pub claimed_after : (p : PlanRecord) (v w : DeskView) (k : ℕ) → DeskOk p v → ClaimTells v k claim.Won w → HasClaimed w k
claimed_after p v w k h told =
    let won = ap (entries k) told.0.won ∙ sum_by_push (λ (s : Signed). cond {A = ℕ} (s.item == k) 1 0) v.won (signed v.number k) in
    let one = ap (λ b. cond {A = ℕ} b 1 0) (eq-eqb k k refl) in
    let made = ap (entries k) (told.0.made ∙ same v.made) in
    let lost = ap (entries k) (told.0.lost ∙ same v.lost) in
    omega (arith, won, one, made, lost, h.backed k, told.1)

-- a reading adds nothing
pub stays_reading : (told : Option Pictures) (p : PlanRecord) (v : DeskView) (e : ℕ) (r : Reading) (w : DeskView) → ReadingTells told p v e r w → Stays v w
stays_reading told p v e (reading.Got t) w tells = tells.0
stays_reading told p v e reading.Turn w tells = tells.0

-- and leaves it what it may read
pub may_read_still : (p : PlanRecord) (v w : DeskView) (e : ℕ) → Stays v w → MayRead p v e → MayRead p w e
may_read_still p v w e stays may = record {
  within = may.within;
  mine = mine (reader_at p e) may.mine;
  unserved = ap (entries e) (stays.served ∙ same v.served) ∙ may.unserved;
  known = stays.knows (source_at p e) may.known;
}
  where
    mine : (r : Reader) → IsMine v r → IsMine w r
    mine (Port alias port) is =
        let lost = ap₂ (λ n l. under n alias l) stays.number (stays.lost ∙ same v.lost) in
        let won = ap₂ (λ n l. under n alias l) stays.number (stays.won ∙ same v.won) in
        omega (arith, is, lost, won)
    mine (Root row tile) is = stays.number ∙ is
