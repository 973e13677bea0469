use Rattle.std.proofs.Common.{rules}
use Rattle.calculator.proofs.Answering.{by_largest, by_running, by_total, by_fee}
use Rattle.calculator.proofs.request.reply_by_name.Goals as goal

pub returns-in-largest : goal.returns-in-largest
returns-in-largest c = search (rules, by_largest)

pub returns-in-running : goal.returns-in-running
returns-in-running c = search (rules, by_running)

pub returns-in-total : goal.returns-in-total
returns-in-total c = search (rules, by_total)

pub returns-in-fee : goal.returns-in-fee
returns-in-fee c = search (rules, by_fee)
