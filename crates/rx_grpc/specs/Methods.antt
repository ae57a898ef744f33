-- The paths of the methods that a farm is called by (remote_execution.proto and bytestream.proto, the services).
use Rattle.std.specs.Prelude.{ℕ, List, codes}
use Rattle.rx_grpc.specs.declared.method.Method.{Method}
use Rattle.rx_grpc.specs.declared.method.Method.TheVariants.{GetCapabilities, GetActionResult, FindMissingBlobs, BatchUpdateBlobs, BatchReadBlobs}
use Rattle.rx_grpc.specs.declared.method.Method.TheVariants.{Execute, WaitExecution, ReadStream, WriteStream}

abbrev pub path_of : Method → List ℕ
path_of GetCapabilities = codes "/build.bazel.remote.execution.v2.Capabilities/GetCapabilities"
path_of GetActionResult = codes "/build.bazel.remote.execution.v2.ActionCache/GetActionResult"
path_of FindMissingBlobs = codes "/build.bazel.remote.execution.v2.ContentAddressableStorage/FindMissingBlobs"
path_of BatchUpdateBlobs = codes "/build.bazel.remote.execution.v2.ContentAddressableStorage/BatchUpdateBlobs"
path_of BatchReadBlobs = codes "/build.bazel.remote.execution.v2.ContentAddressableStorage/BatchReadBlobs"
path_of Execute = codes "/build.bazel.remote.execution.v2.Execution/Execute"
path_of WaitExecution = codes "/build.bazel.remote.execution.v2.Execution/WaitExecution"
path_of ReadStream = codes "/google.bytestream.ByteStream/Read"
path_of WriteStream = codes "/google.bytestream.ByteStream/Write"
