-- What a seat keeps is what every desk keeps
use Rattle.std.specs.Prelude.{◌≡◌, ◌<◌, ◌≤◌, ◌==◌, ◌&&◌, ℕ, Bool, true, false, List, [], ◌∷◌, length, refl}
use Rattle.std.proofs.Common.{subst, arith}
use Rattle.std.proofs.lemmas.Bool.{eqb-true}
use Rattle.atomic_table.specs.Seated.{TableId}
use Rattle.xs_plan.specs.declared.job.Reader.{Reader}
use Rattle.xs_plan.specs.declared.job.Reader.TheVariants.{Port, Root}
use Rattle.xs_plan.specs.Record.{PlanRecord}
use Rattle.xs_core.specs.Counts.{one_if}
use Rattle.xs_core.specs.States.{reader_at}
use Rattle.xs_core.specs.Views.{DeskOk, under}
use Rattle.xs_word_desk.specs.declared.view.View.{View}
use Rattle.xs_word_desk.specs.Seen.{serves, owner, has_number}
use Rattle.xs_word_desk.specs.Plays.{IsSolo}
use Rattle.xs_word_desk.specs.Own.{owner_under}
use Rattle.xs_word_desk.specs.Desks.{is_solo, desk_view, Keeps}

both_of : (a b : Bool) → (a && b) ≡ true → (a ≡ true) × (b ≡ true)
both_of true b is = (refl, is)
both_of false b is = cc

empty_of : (l : List ℕ) → (length l == 0) ≡ true → l ≡ []
empty_of [] is = refl
empty_of (x ∷ l) is = absurd (omega (arith, eqb-true (length (x ∷ l)) 0 is))

pub solo_is : (v : View) → is_solo v ≡ true → IsSolo v
solo_is v is =
    let all = both_of (v.live && (v.number == 0)) (length v.apart == 0) is in
    let first = both_of v.live (v.number == 0) all.0 in
    (first.0, eqb-true v.number 0 first.1, empty_of v.apart all.1)

one_if-some : (b : Bool) → 0 < one_if b → b ≡ true
one_if-some true some = refl
one_if-some false some = absurd (omega (arith, some))

has_number-most : (n : ℕ) (v : View) → has_number n v ≤ 1
has_number-most n v = most (v.live && (v.number == n))
  where
    most : (b : Bool) → one_if b ≤ 1
    most true = omega arith
    most false = omega arith

owner-most : (p : PlanRecord) (v : View) (r : Reader) → Keeps p v → owner r (has_number 0 v) v.won ≤ 1
owner-most p v (Port alias port) keeps = keeps.once alias
owner-most p v (Root row tile) keeps = has_number-most 0 v

pub desk_ok : (p : PlanRecord) (id : TableId) (v : View) → Keeps p v → DeskOk p (desk_view id v)
desk_ok p id v keeps = record {
  backed = λ k. omega (arith, keeps.ok.backed k);
  backed_under = keeps.own.backed_under;
  claims_own = keeps.own.claims_own;
  served_of_won = λ e alias port reader.
      let mine = subst (λ (r : Reader). serves e v ≤ owner r (has_number 0 v) v.won) reader (owned e) in omega (arith, mine);
  served_under = λ number e alias port reader.
      subst (λ (r : Reader). under number e v.served ≤ owner_under r number v.won) reader (keeps.own.served_under number e);
  served_by_chief = λ number e row tile reader some.
      let few = subst (λ (r : Reader). under number e v.served ≤ owner_under r number v.won) reader (keeps.own.served_under number e) in
      eqb-true number 0 (one_if-some (number == 0) (omega (arith, some, few)));
  knows_made = keeps.ok.knows_made;
  knows_served = keeps.ok.knows_served;
  won_once = keeps.once;
  apart = λ k. omega (arith, keeps.ok.backed k, keeps.once k);
  served_once = λ e. let most = owner-most p v (reader_at p e) keeps in omega (arith, owned e, most);
  solo_known = λ solo. keeps.alone_made (solo_is v solo);
  won_within = λ k some. keeps.ok.within k (omega (arith, some));
  known_within = λ k some. keeps.ok.within k (omega (arith, some));
  served_within = λ e some. keeps.ok.reads_within e (omega (arith, some));
}
  where
    owned : (e : ℕ) → serves e v ≤ owner (reader_at p e) (has_number 0 v) v.won
    owned e = omega (arith, keeps.ok.owned e)
