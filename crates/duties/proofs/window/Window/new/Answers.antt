use Rattle.std.proofs.Common.{rules}
use Rattle.meanings.proofs.WindowCodes.{window_code}
use Rattle.duties.proofs.window.Window.new.Goals as goal

pub returns-then-contains : goal.returns-then-contains
returns-then-contains c = search (rules, window_code)
