use Rattle.law_copy.proofs.CrawlReports.{a_crawl_is_taken}
use Rattle.law_copy.proofs.a_crawl_is_a_report.Goals as goal

pub returns : goal.returns
returns c = a_crawl_is_taken
