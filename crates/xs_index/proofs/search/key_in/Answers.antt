use Rattle.xs_meaning.specs.Palettes.{key_at}
use Rattle.xs_index.proofs.Chosen.{key_chosen}
use Rattle.xs_index.proofs.search.key_in.Goals as goal

pub returns : goal.returns
returns c palette moved differ =
    key_chosen palette c.args.keys.now c.args.style c.args.row moved differ c.last_at.result (key_at palette c.args.row c.args.style) c.last_at.ensures
    (c.palette_keys_are_chosen_by_row.ensures.in_force palette c.args.row c.args.style)
