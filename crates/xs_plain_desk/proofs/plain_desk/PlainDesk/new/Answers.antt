use Rattle.std.proofs.Common.{◌≡◌, [], rules, subst, sym, ap}
use Rattle.xs_core.specs.Kept.{CoreRecord}
use Rattle.xs_plain_desk.specs.Lists.{IsListed}
use Rattle.xs_plain_desk.proofs.ListLemmas.{listed_start}
use Rattle.xs_plain_desk.proofs.plain_desk.PlainDesk.new.Goals as goal

pub invariant_of-result : goal.invariant_of-result
invariant_of-result g c =
    let won : c.in_ok-won.won.items ≡ [] = search rules in
    let made : c.in_ok-made.made.items ≡ [] = search rules in
    let lost : c.in_ok-lost.lost.items ≡ [] = search rules in
    let served : c.in_ok-served.served.items ≡ [] = search rules in
    let start = subst (λ (o : CoreRecord). IsListed c.args.p.now o.world [] [] [] []) (sym c.in_ok-store.ensures) (listed_start c.args.p.now) in
    record {
      same = sym (ap (λ (o : CoreRecord). o.plan) c.in_ok-store.ensures);
      listed = rw (won, made, lost, served) start;
      room = search rules;
    }
