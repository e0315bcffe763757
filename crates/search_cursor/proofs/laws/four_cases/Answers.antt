use Rattle.search_cursor.proofs.FourCases.{four_cases}
use Rattle.search_cursor.proofs.laws.four_cases.Goals as goal

pub returns : goal.returns
returns c = four_cases
