use Rattle.std.proofs.Common.{ap, ◌∙◌, ℕ, List, option_map}
use Rattle.serde_json.specs.Find.{get_member}
use Rattle.serde_json.specs.View.{view, members_view}
use Rattle.serde_json.proofs.Views.{view_of_ref, view-lookup}
use Rattle.xs_json.proofs.objects.optional.Goals as goal

pub returns : goal.returns
returns c =
    let members = members_view c.args.map.now.entries in
    view_of_ref c.get.result ∙ ap (option_map view) c.get.ensures.value ∙ view-lookup _ c.args.map.now.entries
    ∙ ap (λ (name : List ℕ). get_member name members) c.text.ensures
