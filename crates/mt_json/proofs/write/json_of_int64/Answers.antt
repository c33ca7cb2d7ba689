use Rattle.std.proofs.Common.{◌≡◌, sym, subst, rules}
use Rattle.std.specs.Prelude.{FitsSigned}
use Rattle.std.specs.Fmt.{signed_decimal}
use Rattle.std.specs.Int.{w64}
use Rattle.serde_json.specs.Data.{string}
use Rattle.serde_json.specs.View.{view}
use Rattle.mt_model.specs.declared.value.Value.TheVariants as value
use Rattle.mt_json.specs.Written.{IsReadBack}
use Rattle.mt_json.proofs.BackLaws.{int64_back}
use Rattle.mt_json.proofs.write.json_of_int64.Goals as goal

pub returns-clause-reads_back : goal.returns-clause-reads_back
returns-clause-reads_back c =
    let small : FitsSigned w64 c.args.n = search rules in
    let shown : view c.from.result ≡ string (signed_decimal c.args.n) = search rules in
    subst (λ d. IsReadBack (value.Int64 c.args.n) d) (sym shown) (int64_back c.args.n small)
