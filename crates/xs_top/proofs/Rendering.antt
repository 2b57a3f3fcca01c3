-- What a render has done, without its steps.
use Rattle.std.proofs.Common.{◌≡◌, ℕ, ◌≤◌, false, List, [], ◌++◌, take, drop, Option, Some, None, Ok, inl, inr, refl, sym, ap, ◌∙◌, subst, append_assoc}
use Rattle.std.proofs.Math.Seq.{take-nil}
use Rattle.std.proofs.lemmas.List.{take-append-drop}
use Rattle.xs_outside.specs.Told.{more}
use Rattle.xs_outside.specs.declared.object.Object.{Object}
use Rattle.xs_fault.specs.declared.fault.SceneFault.{SceneFault}
use Rattle.xs_scene.specs.Records.{SceneRecord}
use Rattle.xs_check.specs.Passes.{first_fault}
use Rattle.xs_words.specs.declared.command.Command.TheVariants as command
use Rattle.xs_words.specs.Grammar.{reading_of}
use Rattle.xs_top.specs.declared.status.Status.{Status}
use Rattle.xs_top.specs.declared.status.Status.TheVariants as answers
use Rattle.xs_top.specs.Trace.{puts, Outcome, Contents, grown}
use Rattle.xs_top.specs.Runs.{GainedFront, is_broken, IsRun}
use Rattle.xs_top.specs.Seen.{Seen}
use Rattle.xs_top.specs.Ran.{RanRows}
use Rattle.xs_levels.specs.Films.{Files}
use Rattle.xs_base.specs.Sections.{rows_of}
use Rattle.xs_top.specs.Finished.{Says, frames_of}
use Rattle.xs_top.specs.Outcome.{if_faultless, rendering_scene, rendering, commanding, outcome}
use Rattle.xs_top.specs.Rendered.{IsRendered, GainedFrames}
use Rattle.xs_top.proofs.Parts.{more-nothing}
use Rattle.xs_top.proofs.Wholes.{front}
use Rattle.xs_top.proofs.Commands.{command_obeyed}
use Rattle.xs_top.proofs.Listings.{TakenOnce}
use Rattle.xs_top.proofs.Finishing.{scene_through, rendered_asks, rendered_puts, rendered_lines, rendered_within, rendered_accepted}
use Rattle.xs_top.proofs.Fronts.{says_or_not, front_rendering}

pub checked_good : (fault : Option SceneFault) (next : Outcome) → (if_faultless fault next).status ≡ answers.Ok → fault ≡ None
checked_good None next e = refl
checked_good (Some fault) next e = absurd cc

pub take_none : {A : Type 0} (n : ℕ) (xs : List A) → xs ≡ [] → take n xs ≡ []
take_none n xs e = rw e (take-nil n)

module _ (files : Files) (name base : List ℕ) (from to : ℕ) (ordered : from ≤ to) where
  -- a render that ends well has read a scene without a fault
  pub rendered_scene : (rendering files name from to base).status ≡ answers.Ok → (s : SceneRecord) × Says files name s × (first_fault s ≡ None)
  unfolding rendering
  rendered_scene ends =
      elim (says_or_not files name (rendering_scene files from to base)) [
        | inl said ↦ (
          said.0,
          said.1,
          checked_good (first_fault said.0) (rendering_scene files from to base said.0)
              (ap (λ o. o.status) (sym (scene_through files name said.0 (rendering_scene files from to base) said.1)) ∙ ends),
        )
        | inr none ↦ absurd (let other : answers.Scene none.fault ≡ answers.Ok = ap (λ o. o.status) (sym none.ends) ∙ ends in cc)
      ]

  rendered_all : TakenOnce → (before now : Contents) → now ≡ grown before (rendering files name from to base).work
      → (rendering files name from to base).status ≡ answers.Ok → IsRendered files name base from to before now
  rendered_all once before now whole ends =
      let read = rendered_scene ends in
      let s = read.0 in
      let says = read.1 in
      let good = read.2 in
      let within = rendered_within files name base s from to says good ends in
      let ok = rendered_accepted files name base s from to says good once ordered ends in
      record {
        scene = s;
        says = says;
        faultless = good;
        within = within;
        accepted = ok;
        asked = ap (λ seen. seen.asked) whole ∙ ap (more before.asked) (rendered_asks once files name base s from to ordered says good within ok);
        frames = ap (λ seen. seen.shelf) whole ∙ ap (more before.shelf) (rendered_puts once files name base s from to ordered says good within ok);
        line = ap (λ seen. seen.notes) whole ∙ ap (more before.notes) (rendered_lines once files name base s from to ordered says good within ok);
      }

  nothing_placed : ((s : SceneRecord) → Says files name s → ⊥) → puts (rendering files name from to base).work ≡ []
  unfolding rendering
  nothing_placed nothing =
      elim (says_or_not files name (rendering_scene files from to base)) [
        | inl said ↦ absurd (nothing said.0 said.1)
        | inr none ↦ ap (λ o. puts o.work) none.ends
      ]

  first_frames : (s : SceneRecord) → Says files name s → (n : ℕ) (before now : Option (List Object))
      → now ≡ more before (take n (puts (rendering files name from to base).work))
      → (rows : ℕ) × (now ≡ more before (take rows (frames_of files s base (rows_of from to))))
  first_frames s says n before now told =
      let placed = puts (rendering files name from to base).work in
      let f = front_rendering files name base s from to ordered says in
      front before now (take n placed) (drop n placed ++ f.rest) _ told
      (f.split ∙ (ap (λ l. l ++ f.rest) (sym (take-append-drop n placed)) ∙ append_assoc (take n placed) (drop n placed) f.rest))

  frames_gained : (before now : Contents) → GainedFront (rendering files name from to base) before now
      → GainedFrames files name base from to before.shelf now.shelf
  frames_gained before now gained = record {
    some = λ s says. first_frames s says gained.shelf.0 before.shelf now.shelf gained.shelf.1;
    none = λ nothing. gained.shelf.1 ∙ (ap (more before.shelf) (take_none gained.shelf.0 _ (nothing_placed nothing)) ∙ more-nothing _);
  }

-- the words of a render tell it
pub is_rendering : (files : Files) (words : List (List ℕ)) (name base : List ℕ) (from to workers : ℕ)
    → reading_of words ≡ Ok (command.Render name from to workers base) → outcome files words ≡ rendering files name from to base
unfolding commanding
is_rendering files words name base from to workers reads = command_obeyed files words (command.Render name from to workers base) reads

module _ (files : Files) (name base : List ℕ) (from to : ℕ) (ordered : from ≤ to) (all : Outcome) (is : all ≡ rendering files name from to base)
    (before now : Seen) (result : Status) (run : IsRun all before now result) where
  run_rendered : TakenOnce → result ≡ answers.Ok → IsRendered files name base from to before.told now.told
  run_rendered once ends =
      let unbroken : is_broken result ≡ false = ap is_broken ends in
      rendered_all files name base from to ordered once before.told now.told
      (run.whole unbroken ∙ ap (λ o. grown before.told o.work) is)
      (ap (λ o. o.status) (sym is) ∙ (sym (run.answer unbroken) ∙ ends))

  pub run_rows : TakenOnce → RanRows files name base from to before now result
  run_rows once = record {
    whole = run_rendered once;
    frames = frames_gained files name base from to ordered before.told now.told
        (subst (λ (whole : Outcome). GainedFront whole before.told now.told) is run.front);
  }
