-- Method types as plain data: a return kind and the parameter kinds (`java.lang.invoke.MethodType`, Java SE 17).
use Rattle.std.specs.Prelude.{ℕ, ◌+◌, Bool, ◌&&◌, List, ◌++◌, take, drop}
use Rattle.mh_type.specs.declared.kind.Kind.{Kind}
use Rattle.mh_type.specs.Kinds.{kind_eq, kinds_eq}

pub record Signature : Type 0 where
  pub ret : Kind
  pub parameters : List Kind

-- whether two types are equal, that is, all their parts are (`MethodType.equals`)
abbrev pub signature_eq : Signature → Signature → Bool
signature_eq a b = kind_eq a.ret b.ret && kinds_eq a.parameters b.parameters

-- the list with these elements inserted before an index (`MethodType.insertParameterTypes`)
abbrev pub with_parameters : List Kind → ℕ → List Kind → List Kind
with_parameters kinds place more = take place kinds ++ (more ++ drop place kinds)

-- the list without `count` elements from an index on (`MethodType.dropParameterTypes`)
abbrev pub without_parameters : List Kind → ℕ → ℕ → List Kind
without_parameters kinds place count = take place kinds ++ drop (place + count) kinds
