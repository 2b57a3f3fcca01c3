use Rattle.std.proofs.Common.{◌≡◌, ◌∙◌, Some, ap}
use Rattle.std.proofs.lemmas.Result.{err_from_is_err_and}
use Rattle.xs_base.specs.Sections.{section_rows}
use Rattle.xs_levels.specs.Films.{film_of}
use Rattle.xs_levels.specs.Table.{table_of}
use Rattle.xs_top.specs.Drawings.{pictures_of}
use Rattle.xs_top.specs.Outcome.{placing_rows}
use Rattle.xs_top.proofs.Parts.{did_then, stopped_then, stopped_memory, keeps_then, keeps_memory}
use Rattle.xs_top.proofs.Progressing.{section_loads, news_are}
use Rattle.xs_top.proofs.render.render_section.Goals as goal

pub make_section-requires-clause-drawn : goal.make_section-requires-clause-drawn
make_section-requires-clause-drawn g c =
    rw c.drawings.ensures.held (c.a_section_has_its_drawings.ensures c.args.p.now c.args.s c.load_section.new.stock.held c.requires.there c.in_ok-load_section.ensures.holds)

pub returns-in_err-load_section-clause-did : goal.returns-in_err-load_section-clause-did
returns-in_err-load_section-clause-did g c = λ to all files e next.
    let p = err_from_is_err_and c.from_residual.result c.from_residual.ensures.1 in
    let scene = c.args.good.now in
    let base = c.args.base.now in
    let rows = section_rows c.args.from to c.args.s in
    let told : g.K.Film.pictures ≡ Some (pictures_of files scene) = c.requires.film ∙ ap (λ f. film_of f (table_of scene)) e in
    let held = c.tells_what_is_held_over.ensures files told in
    let news = news_are c.needed_drawings_are_those_of_the_rows.ensures.scenes scene c.args.from to c.args.s c.args.p.now c.requires.scene c.aliases.ensures.valid all in
    rw (p.1, p.2, section_loads files scene base c.args.p.now c.args.s _ _ rows _ next held news)
    (c.in_err-load_section.ensures.did files e (placing_rows scene (pictures_of files scene) base rows next))

pub returns-in_err-load_section-clause-twice : goal.returns-in_err-load_section-clause-twice
returns-in_err-load_section-clause-twice g c = c.requires.recorded.once

pub returns-in_err-make_section-clause-did : goal.returns-in_err-make_section-clause-did
returns-in_err-make_section-clause-did g c = λ to all files e next.
    let p = err_from_is_err_and c.from_residual-in_err-make_section.result c.from_residual-in_err-make_section.ensures.1 in
    let scene = c.args.good.now in
    let base = c.args.base.now in
    let rows = section_rows c.args.from to c.args.s in
    let told : g.K.Film.pictures ≡ Some (pictures_of files scene) = c.requires.film ∙ ap (λ f. film_of f (table_of scene)) e in
    let held = c.tells_what_is_held_over.ensures files told in
    let news = news_are c.needed_drawings_are_those_of_the_rows.ensures.scenes scene c.args.from to c.args.s c.args.p.now c.requires.scene c.aliases.ensures.valid all in
    rw (p.1, p.2, section_loads files scene base c.args.p.now c.args.s _ _ rows _ next held news)
    (stopped_memory _ _ _ _ (c.in_ok-load_section.ensures.did files e (placing_rows scene (pictures_of files scene) base rows next)))

pub returns-in_err-make_section-clause-keeps : goal.returns-in_err-make_section-clause-keeps
returns-in_err-make_section-clause-keeps g c =
    let p = err_from_is_err_and c.from_residual-in_err-make_section.result c.from_residual-in_err-make_section.ensures.1 in
    rw (p.1, p.2) (keeps_memory _ _ c.in_ok-load_section.ensures.keeps)

pub returns-in_err-make_section-clause-twice : goal.returns-in_err-make_section-clause-twice
returns-in_err-make_section-clause-twice g c = c.in_err-make_section.ensures.part.recorded c.requires.recorded

pub returns-in_err-place_rows-clause-did : goal.returns-in_err-place_rows-clause-did
returns-in_err-place_rows-clause-did g c = λ to all files e next.
    let p = err_from_is_err_and c.from_residual-in_err-place_rows.result c.from_residual-in_err-place_rows.ensures.1 in
    let scene = c.args.good.now in
    let base = c.args.base.now in
    let rows = section_rows c.args.from to c.args.s in
    let told : g.K.Film.pictures ≡ Some (pictures_of files scene) = c.requires.film ∙ ap (λ f. film_of f (table_of scene)) e in
    let held = c.tells_what_is_held_over.ensures files told in
    let news = news_are c.needed_drawings_are_those_of_the_rows.ensures.scenes scene c.args.from to c.args.s c.args.p.now c.requires.scene c.aliases.ensures.valid all in
    let loaded = c.in_ok-load_section.ensures.did files e (placing_rows scene (pictures_of files scene) base rows next) in
    let keeps = c.in_ok-load_section.ensures.keeps in
    rw (p.1, p.2, section_loads files scene base c.args.p.now c.args.s _ _ rows _ next held news)
    (stopped_then _ _ _ _ _ _ loaded keeps.left (c.in_err-place_rows.ensures.did to all files (keeps.left.files ∙ e) next))

pub returns-in_err-place_rows-clause-keeps : goal.returns-in_err-place_rows-clause-keeps
returns-in_err-place_rows-clause-keeps g c =
    let p = err_from_is_err_and c.from_residual-in_err-place_rows.result c.from_residual-in_err-place_rows.ensures.1 in
    rw (p.1, p.2) (keeps_then _ _ _ _ c.in_ok-load_section.ensures.keeps c.in_err-place_rows.ensures.keeps)

pub returns-in_err-place_rows-clause-twice : goal.returns-in_err-place_rows-clause-twice
returns-in_err-place_rows-clause-twice g c = (c.in_ok-make_section.ensures.made.recorded c.requires.recorded).once

pub returns-clause-did : goal.returns-clause-did
returns-clause-did g c = λ to all files e next.
    let scene = c.args.good.now in
    let base = c.args.base.now in
    let rows = section_rows c.args.from to c.args.s in
    let told : g.K.Film.pictures ≡ Some (pictures_of files scene) = c.requires.film ∙ ap (λ f. film_of f (table_of scene)) e in
    let held = c.tells_what_is_held_over.ensures files told in
    let news = news_are c.needed_drawings_are_those_of_the_rows.ensures.scenes scene c.args.from to c.args.s c.args.p.now c.requires.scene c.aliases.ensures.valid all in
    let loaded = c.in_ok-load_section.ensures.did files e (placing_rows scene (pictures_of files scene) base rows next) in
    let keeps = c.in_ok-load_section.ensures.keeps in
    rw (section_loads files scene base c.args.p.now c.args.s _ _ rows _ next held news)
    (did_then loaded (c.in_ok-place_rows.ensures.did to all files (keeps.left.files ∙ e) next))

pub returns-clause-keeps : goal.returns-clause-keeps
returns-clause-keeps g c = keeps_then _ _ _ _ c.in_ok-load_section.ensures.keeps c.in_ok-place_rows.ensures.keeps

pub returns-clause-twice : goal.returns-clause-twice
returns-clause-twice g c = (c.in_ok-make_section.ensures.made.recorded c.requires.recorded).once

pub returns-clause-home : goal.returns-clause-home
returns-clause-home g c = c.in_ok-place_rows.ensures.home ∙ c.in_ok-make_section.ensures.home
