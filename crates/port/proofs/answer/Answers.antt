-- `port::answer` meets its contract: a reply by value fits an area that has room for 256 bytes.
use Rattle.port.proofs.Areas.{put_at_front}
use Rattle.port.proofs.answer.Goals as goal

pub returns : goal.returns
returns c img = put_at_front _ img c.args.reply.now c.args.outcome.reply _ _ c.put.ensures c.requires
