-- Contracts of private functions: what a worker does next.
use Rattle.racp_model.specs.Project.{Project}
use Rattle.racp_model.specs.Formed.{IsFormed}
use Rattle.racp_search.specs.Truth.{SearchPiece}
use Rattle.racp_desk.specs.declared.turn.Next.{Next}
use Rattle.racp_desk.specs.declared.turn.Next.TheVariants.{Search, Wait, Leave}

-- the question of a piece to be searched has the network's form
abbrev pub IsFormedNext : Project → Next SearchPiece → Type 0
IsFormedNext p (Search piece) = IsFormed p piece.question
IsFormedNext p Wait = Unit {0}
IsFormedNext p Leave = Unit {0}
