-- `acts::show_page` meets its contract: an empty page is no page, and is replied as 256 bytes FF; any other is the reply.
use Rattle.std.proofs.Common.{◌∙◌, ap, sym, arith, List, ℕ}
use Rattle.std.proofs.lemmas.List.{nil_from_length}
use Rattle.slices.specs.Lists.{front}
use Rattle.protocol.specs.Endings.{page_reply}
use Rattle.acts.proofs.show_page.Goals as goal

pub returns-in-empty : goal.returns-in-empty
unfolding page_reply
returns-in-empty c =
    let none = nil_from_length c.page.result.now (omega arith) in
    c.copy.ensures ∙ ap (λ (l : List ℕ). front (page_reply l) c.args.reply.now) (sym none ∙ c.page.ensures)
