-- What can be linked: the server, whose answers are the model's, and the server for C, whose answers are numbers.
use Rattle.calls.specs.Interface.{Interface}
use Rattle.calls.specs.Server.{server_interface}
use Rattle.calls.specs.Host.{host_interface}

pub data Linked : Type 0 where
  Server : Linked
  Host : Linked

abbrev pub interface : Linked → Interface
interface Server = server_interface
interface Host = host_interface
