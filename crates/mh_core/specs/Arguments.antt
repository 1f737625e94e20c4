-- The arguments of a call as a list.
use Rattle.std.specs.Prelude.{List, []}
use Rattle.mh_type.specs.declared.value.Value.{Value}
use Rattle.mh_core.specs.declared.arguments.Values.TheVariants.{None, One, Two, Many}
use Rattle.mh_core.specs.declared.arguments.Arguments.TheInside.{Inside}
use Rattle.mh_core.specs.declared.arguments.Values.{Values}

abbrev pub values_of : Values → List Value
values_of None = []
values_of (One values) = values
values_of (Two values) = values
values_of (Many values) = values.items

abbrev pub arguments : Inside → List Value
arguments a = values_of a.values
