use Rattle.std.proofs.Common.{ℕ, List, rules, subst, sym, ap, arith, refl}
use Rattle.xs_core.specs.declared.event.Event.TheVariants.{Finish}
use Rattle.xs_core.specs.States.{is_ready}
use Rattle.xs_core.specs.Events.{happens}
use Rattle.xs_core.specs.Kept.{CoreRecord}
use Rattle.xs_plain_desk.specs.Lists.{IsListed}
use Rattle.xs_plain_desk.proofs.ListLemmas.{phase_room, claimed_is, made_lacks, listed_finish}
use Rattle.xs_plain_desk.proofs.plain_desk.PlainDeskDesk.finish.Goals as goal

pub push_reserved-requires : goal.push_reserved-requires
push_reserved-requires g c =
    let d = c.args.self.now in
    let p = d.plan.now in
    let w = d.store.world in
    let fact = claimed_is p w c.args.self.now.won.items c.args.self.now.made.items c.args.self.now.lost.items c.args.self.now.served.items d.listed c.args.k
    c.requires.claimed in
    let lacks = made_lacks p w c.args.self.now.won.items c.args.self.now.made.items c.args.self.now.lost.items c.args.self.now.served.items d.listed c.args.k
    fact in
    let fits = phase_room p w is_ready d.made.items c.args.k d.listed.phases_many refl d.listed.made_is lacks c.requires.there in
    omega (arith, fits, d.room.made)

pub invariant_of-self : goal.invariant_of-self
invariant_of-self g c =
    let d = c.args.self.now in
    let p = d.plan.now in
    let w = d.store.world in
    let fact = claimed_is p w c.args.self.now.won.items c.args.self.now.made.items c.args.self.now.lost.items c.args.self.now.served.items d.listed c.args.k
    c.requires.claimed in
    let listed = listed_finish p w c.args.self.now.won.items c.args.self.now.made.items c.args.self.now.lost.items c.args.self.now.served.items c.args.k
    d.listed c.requires.there fact in
    record {
      same = sym (ap (λ (o : CoreRecord). o.plan) c.finish.ensures);
      listed = subst (λ (o : CoreRecord). IsListed p o.world c.args.self.now.won.items c.push_reserved.new.self.items c.args.self.now.lost.items
          c.args.self.now.served.items) (sym c.finish.ensures)
          (subst (λ (l : List ℕ). IsListed p (happens p w
          (Finish 0 c.args.k)) c.args.self.now.won.items l c.args.self.now.lost.items c.args.self.now.served.items)
          (sym c.push_reserved.ensures.items) listed);
      room = search rules;
    }
