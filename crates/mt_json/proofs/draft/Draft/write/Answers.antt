use Rattle.serde_json.specs.View.{members_view}
use Rattle.mt_json.proofs.MembersLaws.{flat_from}
use Rattle.mt_json.proofs.draft.Draft.write.Goals as goal

pub put_members-requires-clause-flat : goal.put_members-requires-clause-flat
put_members-requires-clause-flat c =
    let d = c.args.self.now in
    flat_from (members_view d.members.entries) d.valid.exact d.valid.flat
