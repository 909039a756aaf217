-- The game that a job asks about: the graph of its map and the rule of its duty.
use Rattle.std.specs.Prelude.{ℕ}
use Rattle.game.specs.Graph.{Graph}
use Rattle.game.specs.Rule.{Rule}
use Rattle.meanings.specs.Queue.{queue_graph}
use Rattle.meanings.specs.Window.{window}
use Rattle.job.specs.declared.records.DutyWord.{DutyWord}
use Rattle.job.specs.declared.records.DutyWord.TheVariants.{Window}
use Rattle.job.specs.Job.{Map, queue, Job}

abbrev pub map_graph : Map → Graph
map_graph (queue capacity) = queue_graph capacity

abbrev pub duty_rule : DutyWord → ℕ → Rule
duty_rule Window bound = window bound

abbrev pub graph_of : Job → Graph
graph_of j = map_graph j.map

abbrev pub rule_of : Job → Rule
rule_of j = duty_rule j.duty.word j.duty.bound
