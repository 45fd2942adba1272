use Rattle.mt_pages.proofs.SendingFacts.{broken_page}
use Rattle.mt_pages.proofs.sending.send.Goals as goal

pub returns-else-wrote-clause-breaks : goal.returns-else-wrote-clause-breaks
returns-else-wrote-clause-breaks g c = broken_page _ _ _ _ _ _ c.as_bytes.ensures c.put_all-wrote.ensures.written
