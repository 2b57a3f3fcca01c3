-- Aliases come to life and are read
use Rattle.std.proofs.Common.{inl, inr, ◌≡◌, ◌<◌, ◌≤◌, ◌+◌, ℕ, Bool, true, false, ◌&&◌, ◌==◌, cond, Option, List, [], ◌∷◌, ◌++◌, refl, sym, ap, ap₂, subst, ◌∙◌, arith}
use Rattle.std.proofs.lemmas.List.Sums.{sum_by_push}
use Rattle.std.proofs.lemmas.Bool.{cases_eq, cases_lt, eq-eqb, ne_eqb}
use Rattle.xs_pixel.specs.Picture.{Pictures}
use Rattle.xs_raster.specs.declared.tile.Tile.{Tile}
use Rattle.xs_plan.specs.Record.{PlanRecord}
use Rattle.xs_plan.specs.Reads.{reads_in}
use Rattle.xs_plan.specs.declared.job.Reader.{Reader}
use Rattle.xs_plan.specs.declared.job.Reader.TheVariants.{Port, Root}
use Rattle.xs_core.specs.declared.answer.Claim.TheVariants as claim
use Rattle.xs_core.specs.declared.answer.Reading.{Reading}
use Rattle.xs_core.specs.declared.answer.Reading.TheVariants.{Got}
use Rattle.xs_core.specs.States.{source_at, reader_at}
use Rattle.xs_core.specs.Views.{DeskView, Signed, signed, entries, under, Knows, IsMine, IsFresh, MayRead}
use Rattle.xs_core.specs.Calls.{Adds, Stays, HoldsTile, ClaimTells, FinishTells, ReadingTells, RetireTells}
use Rattle.xs_life.specs.Alive.{Alive, IsMade}

same : {A : Type 0} (xs : List A) → xs ++ [] ≡ xs
same [] = refl
same (x ∷ xs) = ap (λ l. x ∷ l) (same xs)

-- the chief wins and makes one alias more
pub alive_made :
    (v w u : DeskView) (k : ℕ) → Alive v k 0 → ClaimTells v k claim.Won w → FinishTells w k u → Alive u (k + 1) 0
alive_made v w u k h claimed finished = record {
  chief = number;
  solo = finished.0.solo ∙ claimed.0.solo ∙ h.solo;
  lost = finished.0.lost ∙ same w.lost ∙ claimed.0.lost ∙ same v.lost ∙ h.lost;
  won = mine;
  known = known;
  unserved = λ e past. ap (entries e) (finished.0.served ∙ same w.served ∙ claimed.0.served ∙ same v.served) ∙ h.unserved e past;
}
  where
    number : u.number ≡ 0
    number = finished.0.number ∙ claimed.0.number ∙ h.chief

    won : u.won ≡ v.won ++ signed 0 k ∷ []
    won = finished.0.won ∙ same w.won ∙ claimed.0.won ∙ ap (λ n. v.won ++ signed n k ∷ []) h.chief

    more : (j : ℕ) → under 0 j u.won ≡ under 0 j v.won + cond {A = ℕ} (k == j) 1 0
    more j = ap (under 0 j) won ∙ sum_by_push (λ (s : Signed). cond {A = ℕ} ((s.number == 0) && (s.item == j)) 1 0) v.won (signed 0 k)

    mine : (j : ℕ) → j < k + 1 → 0 < under 0 j u.won
    mine j less = elim (cases_eq k j) [
      | inl here ↦ let one = ap (λ b. cond {A = ℕ} b 1 0) (eq-eqb k j here) in omega (arith, more j, one)
      | inr differ ↦ omega (arith, more j, h.won j (omega arith))
    ]

    known : (j : ℕ) → j < k + 1 → Knows u j
    known j less = elim (cases_eq k j) [
      | inl here ↦ subst (λ (i : ℕ). Knows u i) here finished.1
      | inr differ ↦ finished.0.knows j (claimed.0.knows j (h.known j (omega arith)))
    ]

-- the read may be read
pub alive_may :
    (p : PlanRecord) (v : DeskView) (aliases e : ℕ) → Alive v aliases e → e < reads_in p → source_at p e < aliases → IsMade aliases (reader_at p e)
    → MayRead p v e
alive_may p v aliases e h there source made = record {
  within = there;
  mine = mine (reader_at p e) made;
  unserved = h.unserved e (omega arith);
  known = h.known (source_at p e) source;
}
  where
    mine : (r : Reader) → IsMade aliases r → IsMine v r
    mine (Port alias port) is =
        let none = ap₂ (λ n l. under n alias l) h.chief h.lost in
        let some = ap (λ n. under n alias v.won) h.chief in
        omega (arith, none, some, h.won alias is)
    mine (Root row tile) is = h.chief

-- and is served
pub alive_served :
    (p : PlanRecord) (v w u : DeskView) (aliases e n : ℕ) → Alive v aliases e → Stays v w → RetireTells p w e n u → Alive u aliases (e + 1)
alive_served p v w u aliases e n h stays retired = record {
  chief = retired.0.number ∙ stays.number ∙ h.chief;
  solo = retired.0.solo ∙ stays.solo ∙ h.solo;
  lost = retired.0.lost ∙ same w.lost ∙ stays.lost ∙ same v.lost ∙ h.lost;
  won = λ k less.
      let won = ap (under 0 k) (retired.0.won ∙ same w.won ∙ stays.won ∙ same v.won) in
      omega (arith, won, h.won k less);
  known = λ k less. retired.0.knows k (stays.knows k (h.known k less));
  unserved = λ i past.
      let served = ap (entries i) (retired.0.served ∙ ap (λ l. l ++ signed w.number e ∷ []) (stays.served ∙ same v.served)) in
      let push = sum_by_push (λ (s : Signed). cond {A = ℕ} (s.item == i) 1 0) v.served (signed w.number e) in
      let other = ap (λ b. cond {A = ℕ} b 1 0) (ne_eqb e i (λ same. omega (arith, same, past))) in
      omega (arith, served, push, other, h.unserved i (omega arith));
}

-- a fresh seat has made and served nothing
pub alive_fresh : (v : DeskView) → IsFresh v → Alive v 0 0
alive_fresh v fresh = record {
  chief = fresh.number;
  solo = fresh.solo;
  lost = fresh.lost;
  won = λ k less. absurd (omega (arith, less));
  known = λ k less. absurd (omega (arith, less));
  unserved = λ e past. ap (entries e) fresh.served;
}

-- a tile that was got holds the value of the read's source
pub reading_holds :
    (told : Option Pictures) (p : PlanRecord) (v w : DeskView) (e : ℕ) (r : Reading) (t : Tile) → r ≡ Got t → ReadingTells told p v e r w
    → HoldsTile told p (source_at p e) t
reading_holds told p v w e r t got tells =
    let here : ReadingTells told p v e (Got t) w = subst (λ (x : Reading). ReadingTells told p v e x w) got tells in
    here.1
