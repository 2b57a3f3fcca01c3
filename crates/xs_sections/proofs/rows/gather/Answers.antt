use Rattle.std.proofs.Common.{◌<◌, ◌≤◌, length, refl, ◌∙◌, arith}
use Rattle.xs_sections.proofs.RowLemmas.{gathered_none, gathered_more, gathered_all}
use Rattle.xs_sections.proofs.rows.gather.Goals as goal

pub loop-i-init : goal.loop-i-init
loop-i-init g c = record {
  plan = c.requires.plan;
  frame = refl;
  chief = c.requires.chief;
  alone = c.requires.alone;
  done = c.requires.done;
  gathered = gathered_none c.args.p.now c.args.s c.args.rows.now (g.D.Desk.view c.args.desk.now) c.requires.rows c.requires.ungathered;
}

pub gather_row-requires-clause-unserved : goal.gather_row-requires-clause-unserved
gather_row-requires-clause-unserved g c = λ tile there.
    let less : c.loop-i.i < length c.args.rows.now = omega arith in
    c.loop-i.invariant.gathered.after c.loop-i.i tile (omega arith) less there

pub loop-i-preserved : goal.loop-i-preserved
loop-i-preserved g c =
    let less : c.loop-i.i < length c.args.rows.now = omega arith in
    let serves = c.in-Ok.ensures.serves in
    record {
      plan = c.in-Ok.ensures.plan;
      frame = c.in-Ok.ensures.frame ∙ c.loop-i.invariant.frame;
      chief = serves.number ∙ c.loop-i.invariant.chief;
      alone = serves.solo ∙ c.loop-i.invariant.alone;
      done = c.in-Ok.ensures.done;
      gathered = gathered_more c.a_row_has_the_reads_of_its_tiles.ensures c.args.p.now c.args.s c.args.rows.now c.loop-i.i
          (g.D.Desk.view c.loop-i.desk) (g.D.Desk.view c.gather_row.new.desk) c.requires.rows less c.loop-i.invariant.gathered serves;
    }

pub returns-clause-begun : goal.returns-clause-begun
returns-clause-begun g c =
    let whole : length c.args.rows.now ≤ c.loop-i.i = omega arith in
    let v = g.D.Desk.view c.loop-i.desk in
    c.what_is_held_after_a_section_is_read_later.ensures.begun c.args.p.now c.aliases.ensures.valid c.args.s v c.loop-i.invariant.done
    (gathered_all c.args.p.now c.args.s c.args.rows.now c.loop-i.i v c.requires.rows whole c.loop-i.invariant.gathered)

pub returns-clause-held : goal.returns-clause-held
returns-clause-held g c = λ k.
    let whole : length c.args.rows.now ≤ c.loop-i.i = omega arith in
    let v = g.D.Desk.view c.loop-i.desk in
    c.what_is_held_after_a_section_is_read_later.ensures.held c.args.p.now c.aliases.ensures.valid c.args.s v k c.loop-i.invariant.done
    (gathered_all c.args.p.now c.args.s c.args.rows.now c.loop-i.i v c.requires.rows whole c.loop-i.invariant.gathered)
