-- The job that ends after statements, stated by what is in force there.
use Rattle.std.specs.Prelude.{◌≡◌, ◌⊎◌, ◌<◌, ◌≤◌, ℕ, List, [], ◌∷◌, ◌++◌, length, map, ◌==◌, ◌&&◌}
use Rattle.std.specs.Prelude.{Some, None, Ok, Err}
use Rattle.page_model.specs.declared.parts.Zone.{Zone}
use Rattle.ps_tokens.specs.declared.faults.FaultKind.TheVariants.{JobTooLong}
use Rattle.ps_tokens.specs.declared.faults.JobFault.{JobFault}
use Rattle.ps_tokens.specs.declared.object.Object.{Object}
use Rattle.ps_tokens.specs.declared.token.Token.{Token}
use Rattle.ps_tokens.specs.Limits.{longest_job}
use Rattle.ps_tokens.specs.Objects.{objects_of}
use Rattle.ps_tokens.specs.Tokens.{tokens_of}
use Rattle.job_reader.specs.declared.job.Job.{Job}
use Rattle.job_reader.specs.declared.operators.Operator.TheVariants.{ShowPage}
use Rattle.job_reader.specs.Calls.{Statement, statements_of}
use Rattle.job_reader.specs.InForce.{resolution_in_force, trapping_in_force, details_in_force}
use Rattle.job_reader.specs.InForce.{params_in_force, limits_in_force}
use Rattle.job_reader.specs.Statements.{under_trapping}
use Rattle.job_laws.specs.Faults.{AreFaultless, IsFaultOf, fault_after}
use Rattle.job_laws.specs.Zones.{zones_in_force}

-- zone 0, which has no path: the parameters and the limits in force, enabled only where Trapping
-- is true and no zone was made
abbrev pub zone_0_in_force : List Object → List Statement → Zone
zone_0_in_force objects earlier =
    let params = params_in_force objects earlier in
    record {
      params = record params {
        enabled = params.enabled && trapping_in_force objects earlier
            && (length (zones_in_force objects earlier) == 0);
      };
      path = [];
      limits = limits_in_force objects earlier;
    }

-- the job that `showpage` ends after statements: the resolution and the details in force there,
-- and zone 0 before the zones
-- that were made, each of which is enabled only where Trapping is true there
pub record IsJobOf (objects : List Object) (earlier : List Statement) (job : Job) : Type 0 where
  pub resolution : job.resolution ≡ resolution_in_force objects earlier
  pub zones : job.zones
      ≡ zone_0_in_force objects earlier
      ∷ map (under_trapping (trapping_in_force objects earlier)) (zones_in_force objects earlier)
  pub details : job.details ≡ details_in_force objects earlier

-- statements end a job: the first `showpage` among them, after statements without a fault and
-- without one itself
pub record EndJob (objects : List Object) (statements : List Statement) (job : Job) : Type 0 where
  pub earlier : List Statement
  pub show : Statement
  pub later : List Statement
  pub cut : statements ≡ earlier ++ show ∷ later
  pub none_before : AreFaultless objects earlier
  pub shows : show.call.operator ≡ Some ShowPage
  pub fine : fault_after objects earlier show ≡ None
  pub is_job : IsJobOf objects earlier job

-- a job that bytes spell: they are not too many, and the statements of their objects end it
pub record IsSpelledBy (bytes : List ℕ) (job : Job) : Type 0 where
  pub tokens : List Token
  pub objects : List Object
  pub few : length bytes ≤ longest_job
  pub are_tokens : tokens_of bytes ≡ Ok tokens
  pub are_objects : objects_of bytes tokens ≡ Ok objects
  pub ends : EndJob objects (statements_of objects) job

-- a fault of the statements that bytes spell
pub record IsOfStatements (bytes : List ℕ) (fault : JobFault) : Type 0 where
  pub tokens : List Token
  pub objects : List Object
  pub few : length bytes ≤ longest_job
  pub are_tokens : tokens_of bytes ≡ Ok tokens
  pub are_objects : objects_of bytes tokens ≡ Ok objects
  pub stands : IsFaultOf objects (length bytes) (statements_of objects) fault

-- a fault of the objects that bytes spell
pub record IsOfObjects (bytes : List ℕ) (fault : JobFault) : Type 0 where
  pub tokens : List Token
  pub few : length bytes ≤ longest_job
  pub are_tokens : tokens_of bytes ≡ Ok tokens
  pub faulty : objects_of bytes tokens ≡ Err fault

-- a fault of the tokens that bytes spell
pub record IsOfTokens (bytes : List ℕ) (fault : JobFault) : Type 0 where
  pub few : length bytes ≤ longest_job
  pub faulty : tokens_of bytes ≡ Err fault

-- bytes that are too many
pub record IsOfTooMany (bytes : List ℕ) (fault : JobFault) : Type 0 where
  pub many : longest_job < length bytes
  pub is : fault ≡ record { kind = JobTooLong; at = longest_job }

-- a fault of a job's bytes: of their number, or else of their tokens, or else of the objects, or
-- else of the statements
abbrev pub IsFaultOfBytes : List ℕ → JobFault → Type 0
IsFaultOfBytes bytes fault = IsOfTooMany bytes fault ⊎ IsOfTokens bytes fault
    ⊎ IsOfObjects bytes fault ⊎ IsOfStatements bytes fault
