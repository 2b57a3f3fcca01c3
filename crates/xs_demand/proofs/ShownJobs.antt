-- What jobs ask for, by the expressions that they show
use Rattle.std.proofs.Common.{◌≡◌, List, [], ◌∷◌, All, length, sym, ap, ◌∙◌, subst}
use Rattle.std.proofs.lemmas.List.Elements.{All-cons, All-nil}
use Rattle.std.proofs.lemmas.Slice.Zip.{AllZip-long}
use Rattle.xs_pixel.specs.Channels.{Channels}
use Rattle.xs_rect.specs.Area.{Area, grown}
use Rattle.xs_meaning.specs.Expressions.{Expr, Clear, Leaf, Tinted, Card, Pair, Blur, is_clear}
use Rattle.xs_plan.specs.declared.job.Job.{Job}
use Rattle.xs_plan.specs.Record.{Entry, ports_of, input_rect, is_clear_job, drawing_of}
use Rattle.xs_demand.specs.Aliases.{Alias, alias, inputs_on, inputs_of}
use Rattle.xs_demand.specs.Shown.{StandsAt, ShowsJob, ShowsAlias, drawing_in}

ports-by_job :
    (tints : List (List Channels)) (expr : Expr) (rect : Area) (job : Job) → ShowsJob tints expr job
    → length (inputs_on expr rect) ≡ ports_of job
ports-by_job tints Clear rect job is = sym (ap ports_of is)
ports-by_job tints (Leaf d at) rect job is = sym (ap ports_of is)
ports-by_job tints (Tinted d at tint) rect job shows = sym (ap ports_of shows.1)
ports-by_job tints (Card pixel) rect job is = sym (ap ports_of is)
ports-by_job tints (Pair op a b) rect job is = sym (ap ports_of is)
ports-by_job tints (Blur n a) rect job is = sym (ap ports_of is)

pub ports-shown :
    (l : List Alias) (tints : List (List Channels)) (x : Alias) (e : Entry) → ShowsAlias l tints x e
    → length e.inputs ≡ ports_of e.job
ports-shown l tints x e shows = AllZip-long (StandsAt l) (inputs_of x) e.inputs shows.inputs ∙ ports-by_job tints x.expr x.rect e.job shows.job

rects-by_job :
    (tints : List (List Channels)) (expr : Expr) (rect : Area) (job : Job) → ShowsJob tints expr job
    → All (λ input. input.rect ≡ input_rect job rect) (inputs_on expr rect)
rects-by_job tints Clear rect job is = All-nil (λ input. input.rect ≡ input_rect job rect)
rects-by_job tints (Leaf d at) rect job is = All-nil (λ input. input.rect ≡ input_rect job rect)
rects-by_job tints (Tinted d at tint) rect job shows = All-nil (λ input. input.rect ≡ input_rect job rect)
rects-by_job tints (Card pixel) rect job is = All-nil (λ input. input.rect ≡ input_rect job rect)
rects-by_job tints (Pair op a b) rect job is =
    let P : Alias → Type 0 = λ input. input.rect ≡ input_rect job rect in
    let same : rect ≡ input_rect job rect = sym (ap (λ (j : Job). input_rect j rect) is) in
    All-cons P (alias a rect) (alias b rect ∷ []) same (All-cons P (alias b rect) [] same (All-nil P))
rects-by_job tints (Blur n a) rect job is =
    let P : Alias → Type 0 = λ input. input.rect ≡ input_rect job rect in
    let same : grown rect n ≡ input_rect job rect = sym (ap (λ (j : Job). input_rect j rect) is) in
    All-cons P (alias a (grown rect n)) [] same (All-nil P)

pub rects-shown :
    (l : List Alias) (tints : List (List Channels)) (x : Alias) (e : Entry) → ShowsAlias l tints x e
    → All (λ input. input.rect ≡ input_rect e.job e.rect) (inputs_of x)
rects-shown l tints x e shows =
    subst (λ (rect : Area). All (λ input. input.rect ≡ input_rect e.job rect) (inputs_of x)) (sym shows.rect)
    (rects-by_job tints x.expr x.rect e.job shows.job)

pub clear-by_job :
    (tints : List (List Channels)) (expr : Expr) (job : Job) → ShowsJob tints expr job → is_clear_job job ≡ is_clear expr
clear-by_job tints Clear job is = ap is_clear_job is
clear-by_job tints (Leaf d at) job is = ap is_clear_job is
clear-by_job tints (Tinted d at tint) job shows = ap is_clear_job shows.1
clear-by_job tints (Card pixel) job is = ap is_clear_job is
clear-by_job tints (Pair op a b) job is = ap is_clear_job is
clear-by_job tints (Blur n a) job is = ap is_clear_job is

pub drawing-by_job :
    (tints : List (List Channels)) (expr : Expr) (job : Job) → ShowsJob tints expr job → drawing_of job ≡ drawing_in expr
drawing-by_job tints Clear job is = ap drawing_of is
drawing-by_job tints (Leaf d at) job is = ap drawing_of is
drawing-by_job tints (Tinted d at tint) job shows = ap drawing_of shows.1
drawing-by_job tints (Card pixel) job is = ap drawing_of is
drawing-by_job tints (Pair op a b) job is = ap drawing_of is
drawing-by_job tints (Blur n a) job is = ap drawing_of is
