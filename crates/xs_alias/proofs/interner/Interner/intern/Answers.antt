use Rattle.xs_alias.proofs.KeyLists.{IsPut, put}
use Rattle.xs_alias.proofs.Meaning.{meaning-number}
use Rattle.xs_alias.proofs.interner.Interner.intern.Goals as goal

pub invariant_of-self-2 : goal.invariant_of-self-2
invariant_of-self-2 c =
    let done : IsPut c.args.self.now c.insert_full.new.self.keys c.args.k c.in-Ok.n =
    put c.self.inside.given.keys c.args.self.now c.insert_full.new.self.keys c.args.k c.in-Ok.n c.self.view_is
    c.self.invariant c.requires.inputs c.requires.room c.in-Ok.ensures.keys c.in-Ok.ensures.stored in
    done.numbering

pub returns : goal.returns
returns c =
    let done : IsPut c.args.self.now c.insert_full.new.self.keys c.args.k c.in-Ok.n =
    put c.self.inside.given.keys c.args.self.now c.insert_full.new.self.keys c.args.k c.in-Ok.n c.self.view_is
    c.self.invariant c.requires.inputs c.requires.room c.in-Ok.ensures.keys c.in-Ok.ensures.stored in
    record {
      number = done.number;
      means =
          λ tints. meaning-number tints c.args.self.now c.insert_full.new.self.keys c.args.k c.in-Ok.n done.numbering
          c.requires.inputs done.number;
      numbering = done.numbering;
      at_least = done.at_least;
      at_most = done.at_most;
      err = tt;
    }
