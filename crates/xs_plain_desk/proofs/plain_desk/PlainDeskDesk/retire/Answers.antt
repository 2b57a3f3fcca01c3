use Rattle.std.proofs.Common.{◌∷◌, [], ℕ, List, rules, subst, sym, ap, ◌∙◌, arith}
use Rattle.std.proofs.lemmas.Grind.{common_steps}
use Rattle.xs_core.specs.States.{source_at}
use Rattle.xs_core.specs.Kept.{CoreRecord}
use Rattle.xs_core.specs.Views.{signed}
use Rattle.xs_core.specs.Calls.{Adds}
use Rattle.xs_plain_desk.specs.Stored.{retired}
use Rattle.xs_plain_desk.specs.Lists.{IsListed, chief}
use Rattle.xs_plain_desk.specs.ChiefLaw.{entries-by_chief}
use Rattle.xs_plain_desk.proofs.ListLemmas.{read_room, may_serve, listed_retire, left-lacking}
use Rattle.xs_plain_desk.proofs.plain_desk.PlainDeskDesk.retire.Goals as goal

pub push_reserved-requires : goal.push_reserved-requires
push_reserved-requires g c =
    let d = c.args.self.now in
    let lacks = sym (entries-by_chief c.args.e d.served.items) ∙ c.requires.unserved in
    let fits = read_room d.plan.now d.store.world d.served.items c.args.e d.listed.reads_many d.listed.served_is lacks c.requires.within in
    omega (arith, fits, d.room.served)

pub invariant_of-self : goal.invariant_of-self
invariant_of-self g c =
    let d = c.args.self.now in
    let p = d.plan.now in
    let w = d.store.world in
    let may = may_serve p w d.won.items d.made.items d.lost.items d.served.items d.listed c.args.e c.requires in
    let listed = listed_retire p w d.won.items d.made.items d.lost.items d.served.items c.args.e d.listed c.requires.within may in
    record {
      same = sym (ap (λ (o : CoreRecord). o.plan) c.retire-left.ensures.state);
      listed = subst (λ (o : CoreRecord). IsListed p o.world d.won.items d.made.items d.lost.items c.push_reserved.new.self.items)
          (sym c.retire-left.ensures.state)
          (subst (λ (l : List ℕ). IsListed p (retired p w c.args.e) d.won.items d.made.items d.lost.items l) (sym c.push_reserved.ensures.items) listed);
      room = search rules;
    }

pub returns-clause-told : goal.returns-clause-told
returns-clause-told g c =
    let d = c.args.self.now in
    let p = d.plan.now in
    let w = d.store.world in
    let may = may_serve p w d.won.items d.made.items d.lost.items d.served.items d.listed c.args.e c.requires in
    let listed = listed_retire p w d.won.items d.made.items d.lost.items d.served.items c.args.e d.listed c.requires.within may in
    let after = subst (λ (o : CoreRecord). IsListed p o.world d.won.items d.made.items d.lost.items c.push_reserved.new.self.items)
    (sym c.retire-left.ensures.state)
    (subst (λ (l : List ℕ). IsListed p (retired p w c.args.e) d.won.items d.made.items d.lost.items l) (sym c.push_reserved.ensures.items) listed) in
    let adds : Adds (chief d.won.items d.made.items d.lost.items d.served.items)
    (chief d.won.items d.made.items d.lost.items c.push_reserved.new.self.items) [] [] [] (signed 0 c.args.e ∷ []) = search (rules, common_steps) in (
      adds,
      λ other. absurd (cc),
      λ alone. c.retire-left.ensures.left ∙ left-lacking p c.retire-left.new.self.world d.won.items d.made.items d.lost.items c.push_reserved.new.self.items
          after (source_at p c.args.e),
    )
