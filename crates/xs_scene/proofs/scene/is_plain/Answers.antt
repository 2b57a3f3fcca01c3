use Rattle.std.proofs.Common.{IsTrue}
use Rattle.xs_scene.proofs.scene.is_plain.Goals as goal
use Rattle.xs_scene.proofs.scene.is_plain.Goals.{then-have_no_keys, else-have_no_keys}

pub returns-then-have_no_lines : goal.returns-then-have_no_lines
returns-then-have_no_lines c =
    elim c.if-have_no_keys.branch [
      | then-have_no_keys w ↦
          let without_lines : IsTrue w.have_no_lines.result = cc in (
            (λ old. record {
              no_keys = c.have_no_keys.ensures.0 w.if-have_no_keys.true;
              no_lines = w.have_no_lines.ensures.0 without_lines;
              old_nodes = c.have_old_nodes.ensures.0 old;
            }),
            (λ plain. c.have_old_nodes.ensures.1 plain.old_nodes),
          )
      | else-have_no_keys w ↦ absurd (cc)
    ]
