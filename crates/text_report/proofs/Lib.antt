mod Replicas
mod Examples
