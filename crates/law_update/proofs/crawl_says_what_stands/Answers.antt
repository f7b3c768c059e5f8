use Rattle.law_update.proofs.CrawlCheckable.{crawl_says}
use Rattle.law_update.proofs.crawl_says_what_stands.Goals as goal

pub returns : goal.returns
returns c = crawl_says
