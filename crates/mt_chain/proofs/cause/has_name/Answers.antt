use Rattle.std.proofs.Common.{◌≡◌, ◌∙◌, ap, is_some, Option, Bor, Some, None, refl}
use Rattle.std.specs.Option.{option_copied}
use Rattle.mt_model.specs.declared.value.Value.{Value}
use Rattle.mt_chain.proofs.MergeLaws.{named_there}
use Rattle.mt_chain.proofs.cause.has_name.Goals as goal

same_copied : (o : Option (Bor Value)) → is_some o ≡ is_some (option_copied o)
same_copied (Some v) = refl
same_copied None = refl

pub returns : goal.returns
returns c = c.is_some.ensures ∙ same_copied c.get.result ∙ ap is_some c.get.ensures ∙ named_there c.args.props.now c.args.other.now.name
