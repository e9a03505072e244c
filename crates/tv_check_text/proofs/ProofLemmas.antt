-- Proofs that are read and checked.
use Rattle.std.proofs.Common.{ℕ, Bool, List, Option, Result, Ok, Err}
use Rattle.tv_linear.specs.Known.{Known}
use Rattle.tv_cases.specs.LinearCases.{CaseSystem}
use Rattle.tv_cert.specs.declared.node.Marked.{Marked}
use Rattle.tv_cert.specs.declared.node.Proof.TheVariants.{Covered, Chosen}
use Rattle.tv_cert.specs.declared.owes.Destination.{Destination}
use Rattle.tv_cert.specs.Obligations.{a_cover, a_choice}
use Rattle.tv_cert.specs.OwesViews.{destination_owes}
use Rattle.tv_cert.specs.Pieces.{place_of}
use Rattle.tv_cert_reader.specs.declared.cursor.Cursor.{Cursor}
use Rattle.tv_cert_reader.specs.declared.failure.Failure.{Failure}
use Rattle.tv_check_text.specs.Checking.{ChecksCover, ChecksChoice, ChecksProof}

pub cover_checks : (n : ℕ) (owed : ℕ → ℕ → Option (List Known)) (known : List Known) (old new : Cursor) (result : Result Bool Failure) → ChecksCover n owed known 128 old new result → ChecksProof (a_cover n known owed) old new result
cover_checks n owed known old new (Ok met) h = record { proof = Covered h.tree; is_proof = (h.within.shape, h.within.shallow); took = h.took; told = h.told }
cover_checks n owed known old new (Err f) h = h

pub choice_checks : (system : CaseSystem) (p : Marked) (stop : Bool) (destination : Destination) (known : List Known) (old new : Cursor) (result : Result Bool Failure) → ChecksChoice system p stop destination known 128 old new result → ChecksProof (a_choice system.variables system.cases (place_of p) stop (destination_owes system.variables p destination) known) old new result
choice_checks system p stop destination known old new (Ok met) h = record { proof = Chosen h.tree; is_proof = (h.within.shape, h.within.shallow); took = h.took; told = h.told }
choice_checks system p stop destination known old new (Err f) h = h
