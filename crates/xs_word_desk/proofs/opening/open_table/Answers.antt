use Rattle.std.proofs.Common.{rules, ◌≡◌, ◌∙◌, ℕ, List, length, replicate, sym, subst₂}
use Rattle.atomic_table.specs.Table.{opening}
use Rattle.xs_word_desk.specs.Changes.{first_view}
use Rattle.xs_word_desk.specs.Traced.{Traced}
use Rattle.xs_word_desk.proofs.OpeningLemmas.{no_tiles}
use Rattle.xs_word_desk.proofs.Traces.{starts}
use Rattle.xs_word_desk.proofs.opening.open_table.Goals as goal

pub vacant-requires : goal.vacant-requires
vacant-requires g c =
    let made : c.in_ok-words.words.items ≡ replicate (length c.args.p.now.entries) 0 = search rules in
    let words = c.deref.ensures.value ∙ made in
    subst₂ (λ (ws : List ℕ) (n : ℕ). Traced g.K.Film.pictures c.args.p.now (opening ws (no_tiles n) (first_view c.args.p.now))) (sym words)
    (sym c.aliases-aliases.ensures.count) (starts g.K.Film.pictures c.args.p.now c.aliases-aliases.ensures.valid)
