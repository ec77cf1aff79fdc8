use Rattle.hash.proofs.Padding.{marked_is}
use Rattle.hash.proofs.sha2.marked.Goals as goal

pub returns : goal.returns
returns c = marked_is 64 c.args.rest.now c.copy_from_slice.new.self c.requires c.copy_from_slice.ensures.after
