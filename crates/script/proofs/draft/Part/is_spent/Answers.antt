use Rattle.script.proofs.Coded.{spent_then, spent_else}
use Rattle.script.proofs.draft.Part.is_spent.Goals as goal

pub returns-then-is_empty : goal.returns-then-is_empty
returns-then-is_empty c =
    spent_then c.args.self.now.coding c.args.self.now.text.items c.args.self.now.body c.args.self.now.text.len c.is_empty.result c.is_empty-then-is_empty.result
    c.args.self.now.text.ok.0 c.if-is_empty.true c.is_empty.ensures c.is_empty-then-is_empty.ensures

pub returns-else-is_empty : goal.returns-else-is_empty
returns-else-is_empty c =
    spent_else c.args.self.now.coding c.args.self.now.text.items c.args.self.now.body c.args.self.now.text.len c.is_empty.result
    c.args.self.now.text.ok.0 c.if-is_empty.false c.is_empty.ensures
