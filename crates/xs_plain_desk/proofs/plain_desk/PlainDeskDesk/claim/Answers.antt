use Rattle.std.proofs.Common.{ℕ, List, rules, subst, sym, ap, arith, refl}
use Rattle.xs_core.specs.declared.event.Event.TheVariants.{Claim}
use Rattle.xs_core.specs.States.{is_started}
use Rattle.xs_core.specs.Events.{happens}
use Rattle.xs_core.specs.Kept.{CoreRecord}
use Rattle.xs_plain_desk.specs.Lists.{IsListed}
use Rattle.xs_plain_desk.proofs.ListLemmas.{phase_room, won_lacks, listed_claim}
use Rattle.xs_plain_desk.proofs.plain_desk.PlainDeskDesk.claim.Goals as goal

pub push_reserved-requires : goal.push_reserved-requires
push_reserved-requires g c =
    let d = c.args.self.now in
    let p = d.plan.now in
    let w = d.store.world in
    let fact = sym c.in-Idle.ensures in
    let lacks = won_lacks p w c.args.self.now.won.items c.args.self.now.made.items c.args.self.now.lost.items c.args.self.now.served.items d.listed c.args.k
    fact in
    let fits = phase_room p w is_started d.won.items c.args.k d.listed.phases_many refl d.listed.won_is lacks c.requires in
    omega (arith, fits, d.room.won)

pub invariant_of-self : goal.invariant_of-self
invariant_of-self g c =
    let d = c.args.self.now in
    let p = d.plan.now in
    let w = d.store.world in
    let fact = sym c.in-Idle.ensures in
    let listed = listed_claim p w c.args.self.now.won.items c.args.self.now.made.items c.args.self.now.lost.items c.args.self.now.served.items c.args.k
    d.listed c.requires fact in
    record {
      same = sym (ap (λ (o : CoreRecord). o.plan) c.claim.ensures);
      listed = subst (λ (o : CoreRecord). IsListed p o.world c.push_reserved.new.self.items c.args.self.now.made.items c.args.self.now.lost.items
          c.args.self.now.served.items) (sym c.claim.ensures)
          (subst (λ (l : List ℕ). IsListed p (happens p w
          (Claim 0 c.args.k)) l c.args.self.now.made.items c.args.self.now.lost.items c.args.self.now.served.items)
          (sym c.push_reserved.ensures.items) listed);
      room = search rules;
    }
