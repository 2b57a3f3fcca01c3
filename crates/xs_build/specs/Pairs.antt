-- Which inputs of a pair stay
use Rattle.xs_meaning.specs.Expressions.{Staying, Both, First, Second, Neither}
use Rattle.xs_build.specs.declared.pairs.Stays.{Stays}
use Rattle.xs_build.specs.declared.pairs.Stays.TheVariants as stays

abbrev pub stays_as : Staying → Stays
stays_as Both = stays.Both
stays_as First = stays.First
stays_as Second = stays.Second
stays_as Neither = stays.Neither
