use Rattle.std.proofs.Common.{ℕ, List, rules, subst, sym, ap, arith, refl}
use Rattle.xs_core.specs.declared.event.Event.TheVariants.{Abandon}
use Rattle.xs_core.specs.States.{is_lost}
use Rattle.xs_core.specs.Events.{happens}
use Rattle.xs_core.specs.Kept.{CoreRecord}
use Rattle.xs_plain_desk.specs.Lists.{IsListed}
use Rattle.xs_plain_desk.proofs.ListLemmas.{phase_room, claimed_is, lost_lacks, listed_abandon}
use Rattle.xs_plain_desk.proofs.plain_desk.PlainDeskDesk.abandon.Goals as goal

pub push_reserved-requires : goal.push_reserved-requires
push_reserved-requires g c =
    let d = c.args.self.now in
    let p = d.plan.now in
    let w = d.store.world in
    let fact = claimed_is p w c.args.self.now.won.items c.args.self.now.made.items c.args.self.now.lost.items c.args.self.now.served.items d.listed c.args.k
    c.requires.claimed in
    let lacks = lost_lacks p w c.args.self.now.won.items c.args.self.now.made.items c.args.self.now.lost.items c.args.self.now.served.items d.listed c.args.k
    fact in
    let fits = phase_room p w is_lost d.lost.items c.args.k d.listed.phases_many refl d.listed.lost_is lacks c.requires.there in
    omega (arith, fits, d.room.lost)

pub invariant_of-self : goal.invariant_of-self
invariant_of-self g c =
    let d = c.args.self.now in
    let p = d.plan.now in
    let w = d.store.world in
    let fact = claimed_is p w c.args.self.now.won.items c.args.self.now.made.items c.args.self.now.lost.items c.args.self.now.served.items d.listed c.args.k
    c.requires.claimed in
    let listed = listed_abandon p w c.args.self.now.won.items c.args.self.now.made.items c.args.self.now.lost.items c.args.self.now.served.items c.args.k
    d.listed c.requires.there fact in
    record {
      same = sym (ap (λ (o : CoreRecord). o.plan) c.abandon.ensures);
      listed = subst (λ (o : CoreRecord). IsListed p o.world c.args.self.now.won.items c.args.self.now.made.items c.push_reserved.new.self.items
          c.args.self.now.served.items) (sym c.abandon.ensures)
          (subst (λ (l : List ℕ). IsListed p (happens p w
          (Abandon 0 c.args.k)) c.args.self.now.won.items c.args.self.now.made.items l c.args.self.now.served.items)
          (sym c.push_reserved.ensures.items) listed);
      room = search rules;
    }
