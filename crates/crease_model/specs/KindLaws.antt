-- Kinds that are the same are equal.
use Rattle.std.proofs.Common.{◌≡◌, true, refl}
use Rattle.std.proofs.lemmas.Bool.{false≢true}
use Rattle.crease_model.specs.declared.Kind.{Kind}
use Rattle.crease_model.specs.declared.Kind.TheVariants.{Edge, Mountain, Valley, Aux, Unassigned}
use Rattle.crease_model.specs.Kind.{is_same_kind}

pub same_kind_is : (a b : Kind) → is_same_kind a b ≡ true → a ≡ b
same_kind_is Edge Edge e = refl
same_kind_is Edge _ e = absurd (false≢true e)
same_kind_is Mountain Mountain e = refl
same_kind_is Mountain _ e = absurd (false≢true e)
same_kind_is Valley Valley e = refl
same_kind_is Valley _ e = absurd (false≢true e)
same_kind_is Aux Aux e = refl
same_kind_is Aux _ e = absurd (false≢true e)
same_kind_is Unassigned Unassigned e = refl
same_kind_is Unassigned _ e = absurd (false≢true e)

pub same_kind_self : (k : Kind) → is_same_kind k k ≡ true
same_kind_self Edge = refl
same_kind_self Mountain = refl
same_kind_self Valley = refl
same_kind_self Aux = refl
same_kind_self Unassigned = refl
