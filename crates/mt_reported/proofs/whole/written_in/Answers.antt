use Rattle.mt_reported.proofs.whole.written_in.Goals as goal

pub returns-in-Page : goal.returns-in-Page
returns-in-Page c = rw c.in-Page.is c.report_page.ensures
