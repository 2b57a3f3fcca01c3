use Rattle.xs_scene_write.proofs.scene.write_scene.Goals as goal

pub returns-clause-again : goal.returns-clause-again
returns-clause-again c = c.what_is_written_is_read_again.ensures c.args.s.now c.in_range.ensures
