use Rattle.std.proofs.Common.{◌≡◌, refl}
use Rattle.mt_model.specs.declared.value.Value.TheVariants.{Str}
use Rattle.mt_model.specs.Props.{hidden_prop}
use Rattle.mt_model.proofs.Hiding.{IsProps-tried}
use Rattle.mt_model.proofs.Values.{found_tried, visible_tried}
use Rattle.mt_model.proofs.props.Props.add_hidden.Goals as goal

-- what is put in is the hidden property
is_hidden_prop : (c : goal.After-put) → (record { name = c.in_ok-name.name; value = Str c.in_ok-of.field-0 }) ≡ hidden_prop c.args.which c.args.text.now
is_hidden_prop c = rw (c.in_ok-name.ensures, c.in_ok-of.ensures) refl

pub invariant_of-self : goal.invariant_of-self
invariant_of-self c =
    IsProps-tried c.put.result _ c.args.which c.args.text.now c.self.inside.items.items c.put.new.items.items (is_hidden_prop c) c.put.ensures.ok c.put.ensures.err c.self.invariant

pub returns-clause-found : goal.returns-clause-found
returns-clause-found c =
    found_tried c.put.result _ c.args.which c.args.text.now c.self.inside.items.items c.put.new.items.items (is_hidden_prop c) c.put.ensures.ok

pub returns-clause-visible : goal.returns-clause-visible
returns-clause-visible c =
    rw (← c.self.view_is) (visible_tried c.put.result _ c.args.which c.args.text.now c.self.inside.items.items c.put.new.items.items (is_hidden_prop c) c.put.ensures.ok c.put.ensures.err)
