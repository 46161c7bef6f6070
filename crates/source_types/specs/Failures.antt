-- The numbers and sentences of refusals (JSON-RPC 2.0, section 5.1; LSP 3.17, "ErrorCodes").
use Rattle.std.specs.Prelude.{ℕ, ℤ, negsuc, List, codes}
use Rattle.source_types.specs.declared.failures.Failure.{Failure}
use Rattle.source_types.specs.declared.failures.Failure.TheVariants.{NoJson, NoRequest, NoMethod, BadParameters, NotInitialized, NoName, NameTaken}

-- the number of a refusal; `negsuc n` is -(n + 1)
abbrev pub code_of : Failure → ℤ
code_of NoJson = negsuc 32699
code_of NoRequest = negsuc 32599
code_of NoMethod = negsuc 32600
code_of BadParameters = negsuc 32601
code_of NotInitialized = negsuc 32001
code_of NoName = negsuc 32802
code_of NameTaken = negsuc 32802

-- the sentence of a refusal (own)
abbrev pub sentence_of : Failure → List ℕ
sentence_of NoJson = codes "the body is not JSON, or is too long"
sentence_of NoRequest = codes "invalid request"
sentence_of NoMethod = codes "method not found"
sentence_of BadParameters = codes "invalid parameters"
sentence_of NotInitialized = codes "the server is not initialized"
sentence_of NoName = codes "the new name is invalid"
sentence_of NameTaken = codes "the new name is already in use"
