use Rattle.std.proofs.Common.{◌≡◌, ◌∙◌, sym, subst}
use Rattle.xs_plan.specs.Record.{PlanRecord}
use Rattle.xs_word_desk.specs.Plays.{MayServe, ReadTold}
use Rattle.xs_word_desk.proofs.DeskLemmas.{may_serve, keeps_read, bare_read, read_tells}
use Rattle.xs_word_desk.proofs.desk.WordDeskDesk.read.Goals as goal

pub read-requires-clause-may : goal.read-requires-clause-may
read-requires-clause-may g c =
    let d = c.args.self.now in
    let same : c.shared.result.now.key ≡ d.cache.now.table.shared.key = cc in
    subst (λ (q : PlanRecord). MayServe q d.seat.me.0 c.args.e c.source-source.result) (sym same)
    (may_serve d.cache.now.table.shared.key d.cache.now.table.shared.table_id d.seat.me.0 c.args.e c.source-source.result d.keeps
    (sym c.source-source.ensures.source) c.requires)

pub invariant_of-self : goal.invariant_of-self
invariant_of-self g c =
    let d = c.args.self.now in
    let same : c.shared.result.now.key ≡ d.cache.now.table.shared.key = cc in
    let told = subst (λ (q : PlanRecord). ReadTold g.K.Film.pictures q c.source-source.result d.seat.me c.read.result c.read.new.seat.me) same
    c.read.ensures.told in
    record {
      same = c.read.ensures.table ∙ d.same;
      keeps = keeps_read g.K.Film.pictures d.cache.now.table.shared.key c.source-source.result d.seat.me c.read.result c.read.new.seat.me
          d.keeps told;
      bare = bare_read g.K.Film.pictures d.cache.now.table.shared.key c.source-source.result d.seat.me c.read.result c.read.new.seat.me
          told;
    }

pub returns-clause-told : goal.returns-clause-told
returns-clause-told g c =
    let d = c.args.self.now in
    let same : c.shared.result.now.key ≡ d.cache.now.table.shared.key = cc in
    let told = subst (λ (q : PlanRecord). ReadTold g.K.Film.pictures q c.source-source.result d.seat.me c.read.result c.read.new.seat.me) same
    c.read.ensures.told in
    read_tells g.K.Film.pictures d.cache.now.table.shared.key d.cache.now.table.shared.table_id c.args.e c.source-source.result d.seat.me
    c.read.result c.read.new.seat.me d.keeps (sym c.source-source.ensures.source) told
